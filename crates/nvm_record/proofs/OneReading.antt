-- A file reads as one thing alone: one list of commands, or one fault.
use Rattle.std.proofs.Common.{◌≡◌, ◌⊎◌, inl, inr, ℕ, suc, ◌+◌, ◌<◌, ◌≤◌, List, [], ◌∷◌, ◌++◌, length, take, drop, if◌then◌else◌, refl, sym, ap, ◌∙◌, subst, arith, length-append, length-drop}
use Rattle.std.proofs.Common.{Result, Ok, Err, IfOk, IfErr, MatchResult, Vec, Global}
use Rattle.std.proofs.Math.Seq.{take-append_seam, drop-append_seam}
use Rattle.std.proofs.lemmas.List.{length-take, take-append-le, drop-append-le}
use Rattle.byteorder.specs.Endian.{little_number}
use Rattle.nvm_record.specs.Op.{carries_ranges}
use Rattle.nvm_record.specs.Entry.{IsEntryOf, IsSpelling, BeginsWith, called_for, data_kept}
use Rattle.nvm_record.specs.HostFile.{BeginsWithAll, IsHostFile, IsCut, IsTruncated, HasTooMany, IsHostFileFault, IsAnsweredFault}
use Rattle.nvm_record.specs.declared.command.Command.{Command}
use Rattle.nvm_record.specs.declared.op.Op.{Op}
use Rattle.nvm_record.specs.declared.op.Fuse.{Fuse}
use Rattle.nvm_record.specs.declared.host_fault.HostFault.{HostFault}
use Rattle.nvm_record.specs.declared.host_fault.HostFault.TheVariants.{BadName, Truncated, TooMany, NoMemory}

-- a spelling has a whole entry
long : (size : ℕ) (front : List ℕ) (c : Command) → IsSpelling size front c → 64 ≤ length front
long size front c s = let e : length (take 64 front) ≡ 64 = s.entry.whole in omega (arith, length-take 64 front)

-- What the bytes begin with, by their places alone.
record IsPlaced (size : ℕ) (bytes : List ℕ) (c : Command) (rest : List ℕ) : Type 0 where
  pub enough : length bytes ≡ 64 + called_for size (take 64 bytes) + length rest
  pub entry : IsEntryOf (take 64 bytes) c
  pub payload : c.payload ≡ data_kept c.op (take (called_for size (take 64 bytes)) (drop 64 bytes))
  pub rest_is : rest ≡ drop (called_for size (take 64 bytes)) (drop 64 bytes)

placed_front : (size : ℕ) (front : List ℕ) (c : Command) (rest : List ℕ) → IsSpelling size front c → IsPlaced size (front ++ rest) c rest
placed_front size front c rest s =
    let whole = long size front c s in
    let found : List ℕ = drop 64 front in
    let first : take 64 (front ++ rest) ≡ take 64 front = take-append-le 64 front rest whole in
    let second : drop 64 (front ++ rest) ≡ found ++ rest = drop-append-le 64 front rest whole in
    let size_of : called_for size (take 64 front) ≡ length found = sym s.called_for in
    record {
      enough = rw (first, size_of) (omega (arith, length-append front rest, length-drop 64 front));
      entry = rw first s.entry;
      payload = rw (first, second, size_of) (s.payload ∙ ap (data_kept c.op) (sym (take-append_seam found rest)));
      rest_is = rw (first, second, size_of) (sym (drop-append_seam found rest));
    }

placed : (size : ℕ) (bytes : List ℕ) (c : Command) (rest : List ℕ) → BeginsWith size bytes c rest → IsPlaced size bytes c rest
placed size bytes c rest h = subst (λ (b : List ℕ). IsPlaced size b c rest) (sym h.1) (placed_front size h.0 c rest h.2)

-- a command is its fields
fields_give : (c : Command) (cid nsid slba nlb : ℕ) (fuse : Fuse) (op : Op) (payload : List ℕ) → c.cid ≡ cid → c.nsid ≡ nsid → c.fuse ≡ fuse → c.op ≡ op → c.slba ≡ slba → c.nlb ≡ nlb → c.payload ≡ payload
    → c ≡ record { cid = cid; nsid = nsid; fuse = fuse; op = op; slba = slba; nlb = nlb; payload = payload }
fields_give c cid nsid slba nlb fuse op payload a b e f g h i = rw (← a, ← b, ← e, ← f, ← g, ← h, ← i) refl

-- two commands with the same fields
same_command : (c d : Command) → c.cid ≡ d.cid → c.nsid ≡ d.nsid → c.fuse ≡ d.fuse → c.op ≡ d.op → c.slba ≡ d.slba → c.nlb ≡ d.nlb → c.payload ≡ d.payload → c ≡ d
same_command c d = fields_give c d.cid d.nsid d.slba d.nlb d.fuse d.op d.payload

-- The bytes begin with one command.
pub one_command : (size : ℕ) (bytes : List ℕ) (c d : Command) (rest after : List ℕ) → BeginsWith size bytes c rest → BeginsWith size bytes d after → (c ≡ d) × (rest ≡ after)
one_command size bytes c d rest after h k =
    let p = placed size bytes c rest h in
    let q = placed size bytes d after k in
    let op : c.op ≡ d.op = p.entry.op ∙ sym q.entry.op in
    let slba : c.slba ≡ d.slba = p.entry.slba ∙ ap (λ (o : Op). if carries_ranges o then 0 else little_number 8 (drop 40 (take 64 bytes))) op ∙ sym q.entry.slba in
    let nlb : c.nlb ≡ d.nlb = p.entry.nlb ∙ ap (λ (o : Op). if carries_ranges o then 0 else little_number 2 (drop 48 (take 64 bytes))) op ∙ sym q.entry.nlb in
    let payload : c.payload ≡ d.payload = p.payload ∙ ap (λ (o : Op). data_kept o (take (called_for size (take 64 bytes)) (drop 64 bytes))) op ∙ sym q.payload in (
      same_command c d (p.entry.cid ∙ sym q.entry.cid) (p.entry.nsid ∙ sym q.entry.nsid) (p.entry.fuse ∙ sym q.entry.fuse) op slba nlb payload,
      p.rest_is ∙ sym q.rest_is,
    )

-- no command begins there
abbrev IsBlocked : ℕ → List ℕ → Type 0
IsBlocked size rest = (c : Command) (after : List ℕ) → BeginsWith size rest c after → ⊥

blocked_at_end : (size : ℕ) → IsBlocked size []
blocked_at_end size c after h =
    let p = placed size [] c after h in
    let e : 0 ≡ 64 + called_for size (take 64 []) + length after = p.enough in absurd (omega arith)

blocked_at_cut : (size : ℕ) (rest : List ℕ) (at : ℕ) → IsCut size rest at → IsBlocked size rest
blocked_at_cut size rest at cut c after h =
    let p = placed size rest c after h in
    let n : ℕ = called_for size (take 64 rest) in
    let e : length rest ≡ 64 + n + length after = p.enough in
    elim cut [
      | inl short ↦ let s : length rest < 64 = short.1 in absurd (omega arith)
      | inr short ↦ let s : length rest < 64 + n = short.1 in absurd (omega arith)
    ]

-- Two readings that both stop, at a place where no command begins or at the greatest number, are one.
one_end : (size most n : ℕ) (bytes : List ℕ) (cs ds : List Command) (r s : List ℕ) → BeginsWithAll size bytes cs r → BeginsWithAll size bytes ds s
    → n + length cs ≤ most → n + length ds ≤ most → IsBlocked size r ⊎ (n + length cs ≡ most) → IsBlocked size s ⊎ (n + length ds ≡ most) → (cs ≡ ds) × (r ≡ s)
one_end size most n bytes [] [] r s h k few fewer stop halt = (refl, sym h ∙ k)
one_end size most n bytes [] (d ∷ ds) r s h k few fewer stop halt =
    elim stop [
      | inl blocked ↦ absurd (blocked d k.0 (subst (λ (b : List ℕ). BeginsWith size b d k.0) h k.1))
      | inr full ↦ absurd (omega arith)
    ]
one_end size most n bytes (c ∷ cs) [] r s h k few fewer stop halt =
    elim halt [
      | inl blocked ↦ absurd (blocked c h.0 (subst (λ (b : List ℕ). BeginsWith size b c h.0) k h.1))
      | inr full ↦ absurd (omega arith)
    ]
one_end size most n bytes (c ∷ cs) (d ∷ ds) r s h k few fewer stop halt =
    let same = one_command size bytes c d h.0 k.0 h.1 k.1 in
    let more = one_end size most (suc n) h.0 cs ds r s h.2 (subst (λ (b : List ℕ). BeginsWithAll size b ds s) (sym same.1) k.2) (omega arith) (omega arith)
    (elim stop [ inl blocked ↦ inl blocked | inr full ↦ inr (omega arith) ])
    (elim halt [ inl blocked ↦ inl blocked | inr full ↦ inr (omega arith) ]) in
    (cc, more.1)

-- how many commands a reading has at most, and why it stops
record IsReadTo (size : ℕ) (bytes : List ℕ) (cs : List Command) (rest : List ℕ) : Type 0 where
  pub commands : BeginsWithAll size (drop 4 bytes) cs rest
  pub few : length cs ≤ 65536
  pub stops : IsBlocked size rest ⊎ (0 + length cs ≡ 65536)

one_reading : (size : ℕ) (bytes : List ℕ) (cs ds : List Command) (r s : List ℕ) → IsReadTo size bytes cs r → IsReadTo size bytes ds s → (cs ≡ ds) × (r ≡ s)
one_reading size bytes cs ds r s h k = one_end size 65536 0 (drop 4 bytes) cs ds r s h.commands k.commands (let f = h.few in omega arith) (let f = k.few in omega arith) h.stops k.stops

read_whole : (size : ℕ) (bytes : List ℕ) (cs : List Command) → IsHostFile size bytes cs → IsReadTo size bytes cs []
read_whole size bytes cs h = record { commands = h.commands; few = h.few; stops = inl (blocked_at_end size) }

read_cut : (size : ℕ) (bytes : List ℕ) (offset : ℕ) (cs : List Command) (rest : List ℕ) (at : ℕ) → IsTruncated size bytes offset cs rest at → IsReadTo size bytes cs rest
read_cut size bytes offset cs rest at h = record { commands = h.commands; few = (let f = h.few in omega arith); stops = inl (blocked_at_cut size rest at h.cut) }

read_full : (size : ℕ) (bytes : List ℕ) (cs : List Command) (rest : List ℕ) → HasTooMany size bytes cs rest → IsReadTo size bytes cs rest
read_full size bytes cs rest h = record { commands = h.commands; few = (let f = h.many in omega arith); stops = inr (let f = h.many in omega arith) }

-- A file is the file of one list of commands.
pub one_list : (size : ℕ) (bytes : List ℕ) (cs ds : List Command) → IsHostFile size bytes cs → IsHostFile size bytes ds → cs ≡ ds
one_list size bytes cs ds h k = (one_reading size bytes cs ds [] [] (read_whole size bytes cs h) (read_whole size bytes ds k)).0

-- nothing is left after a whole file
cut_has_rest : (size : ℕ) (rest : List ℕ) (at : ℕ) → IsCut size rest at → 0 < length rest
cut_has_rest size rest at cut = elim cut [ inl short ↦ short.0 | inr short ↦ (let l : 64 ≤ length rest = short.0 in omega arith) ]

-- A file that has a fault is the file of no commands.
pub no_list : (size : ℕ) (bytes : List ℕ) (cs : List Command) (f : HostFault) → IsHostFile size bytes cs → IsHostFileFault size bytes f → ⊥
no_list size bytes cs BadName h k = k h.name
no_list size bytes cs (Truncated offset) h (ds, rest, at, k) =
    let same : [] ≡ rest = (one_reading size bytes cs ds [] rest (read_whole size bytes cs h) (read_cut size bytes offset ds rest at k)).1 in
    let some : 0 < length rest = cut_has_rest size rest at k.cut in
    let none : 0 ≡ length rest = ap length same in absurd (omega arith)
no_list size bytes cs TooMany h (ds, rest, k) =
    let same : [] ≡ rest = (one_reading size bytes cs ds [] rest (read_whole size bytes cs h) (read_full size bytes ds rest k)).1 in
    let some : 0 < length rest = k.left in
    let none : 0 ≡ length rest = ap length same in absurd (omega arith)
no_list size bytes cs NoMemory h k = k

-- what isn't whole begins at one place
one_cut : (size : ℕ) (rest : List ℕ) (at place : ℕ) → IsCut size rest at → IsCut size rest place → at ≡ place
one_cut size rest at place h k =
    elim h [
      | inl a ↦ let a0 : length rest < 64 = a.1 in let a1 : at ≡ 0 = a.2 in elim k [ inl b ↦ (let b1 : place ≡ 0 = b.2 in omega arith) | inr b ↦ (let b0 : 64 ≤ length rest = b.0 in absurd (omega arith)) ]
      | inr a ↦ let a0 : 64 ≤ length rest = a.0 in let a1 : at ≡ 64 = a.2 in elim k [ inl b ↦ (let b0 : length rest < 64 = b.1 in absurd (omega arith)) | inr b ↦ (let b1 : place ≡ 64 = b.2 in omega arith) ]
    ]

-- A file has one fault.
pub one_fault : (size : ℕ) (bytes : List ℕ) (f g : HostFault) → IsHostFileFault size bytes f → IsHostFileFault size bytes g → f ≡ g
one_fault size bytes BadName BadName h k = refl
one_fault size bytes BadName (Truncated offset) h (ds, rest, at, k) = absurd (h k.name)
one_fault size bytes BadName TooMany h (ds, rest, k) = absurd (h k.name)
one_fault size bytes BadName NoMemory h k = absurd k
one_fault size bytes (Truncated offset) BadName (ds, rest, at, k) h = absurd (h k.name)
one_fault size bytes (Truncated offset) (Truncated place) (cs, r, x, h) (ds, s, y, k) =
    let same : r ≡ s = (one_reading size bytes cs ds r s (read_cut size bytes offset cs r x h) (read_cut size bytes place ds s y k)).1 in
    let cut : x ≡ y = one_cut size r x y h.cut (subst (λ (z : List ℕ). IsCut size z y) (sym same) k.cut) in
    let lengths : length r ≡ length s = ap length same in
    let a : offset + length r ≡ length bytes + x = h.place in
    let b : place + length s ≡ length bytes + y = k.place in
    let offsets : offset ≡ place = omega arith in
    ap Truncated offsets
one_fault size bytes (Truncated offset) TooMany (cs, r, x, h) (ds, s, k) =
    let same : cs ≡ ds = (one_reading size bytes cs ds r s (read_cut size bytes offset cs r x h) (read_full size bytes ds s k)).0 in
    let lengths : length cs ≡ length ds = ap length same in
    let a : length cs < 65536 = h.few in
    let b : length ds ≡ 65536 = k.many in absurd (omega arith)
one_fault size bytes (Truncated offset) NoMemory h k = absurd k
one_fault size bytes TooMany BadName (ds, rest, k) h = absurd (h k.name)
one_fault size bytes TooMany (Truncated offset) (ds, s, k) (cs, r, x, h) =
    let same : cs ≡ ds = (one_reading size bytes cs ds r s (read_cut size bytes offset cs r x h) (read_full size bytes ds s k)).0 in
    let lengths : length cs ≡ length ds = ap length same in
    let a : length cs < 65536 = h.few in
    let b : length ds ≡ 65536 = k.many in absurd (omega arith)
one_fault size bytes TooMany TooMany h k = refl
one_fault size bytes TooMany NoMemory h k = absurd k
one_fault size bytes NoMemory g h k = absurd h

-- what is answered where the file is the file of some commands
pub all_alone : (size : ℕ) (bytes : List ℕ) (cs : List Command) (r : Result (Vec Command Global) HostFault) → IsHostFile size bytes cs → IfOk r (λ v. IsHostFile size bytes v.items) → IfErr r (IsAnsweredFault size bytes)
    → MatchResult r (λ v. v.items ≡ cs) (λ e. e ≡ NoMemory)
all_alone size bytes cs (Ok v) h ok err = one_list size bytes v.items cs ok h
all_alone size bytes cs (Err e) h ok (inl fault) = absurd (no_list size bytes cs e h fault)
all_alone size bytes cs (Err e) h ok (inr memory) = memory

-- what is answered where the file has a fault
pub each_alone : (size : ℕ) (bytes : List ℕ) (f : HostFault) (r : Result (Vec Command Global) HostFault) → IsHostFileFault size bytes f → IfOk r (λ v. IsHostFile size bytes v.items) → IfErr r (IsAnsweredFault size bytes)
    → MatchResult r (λ _. ⊥) (λ e. (e ≡ f) ⊎ (e ≡ NoMemory))
each_alone size bytes f (Ok v) h ok err = no_list size bytes v.items f ok h
each_alone size bytes f (Err e) h ok (inl fault) = inl (one_fault size bytes e f fault h)
each_alone size bytes f (Err e) h ok (inr memory) = inr memory
