-- Stamps: how long they are, whose they are, and what two halves of two of them are.
use Rattle.std.proofs.Common.{◌≡◌, ◌⊎◌, inl, inr, ℕ, zero, suc, ◌+◌, ◌*◌, ◌/◌, ◌%◌, ◌≤◌, List, [], ◌∷◌, ◌++◌, length, take, drop, replicate, refl, sym, ap, ap₂, ◌-◌, subst, ◌∙◌, arith, length-append}
use Rattle.std.proofs.Math.Seq.{take-append_seam, take-append-add}
use Rattle.std.proofs.lemmas.Bool.{cases_lt}
use Rattle.std.proofs.lemmas.Grind.{flat_map-append}
use Rattle.std.proofs.lemmas.List.{append-nil, append_assoc, append_cancel_left, take-append-le, drop-append-le, length-take, length-drop, length-replicate}
use Rattle.std.specs.List.{flat_map, range_with_len}
use Rattle.nvm_record.specs.BlockSize.{IsBlockSize}
use Rattle.nvm_generate.specs.Stamp.{named, filled, stamp, stamps}
use Rattle.nvm_generate.proofs.Counting.{range_more}

-- one block more
pub stamps_more : (size host cid n : ℕ) → stamps size host cid (n + 1) ≡ stamps size host cid n ++ stamp size host cid n
stamps_more size host cid n =
    let f = stamp size host cid in
    ap (flat_map f) (range_more 0 n n (omega arith)) ∙ flat_map-append f (range_with_len 0 n) (n ∷ []) ∙ ap (λ l. stamps size host cid n ++ l) (append-nil (f n))

-- four bytes, each so often
four_long : (k a b c d : ℕ) → length (flat_map (replicate k) (a ∷ b ∷ c ∷ d ∷ [])) ≡ 4 * k
four_long k a b c d =
    let rest : List ℕ = replicate k d ++ [] in
    let third : List ℕ = replicate k c ++ rest in
    let second : List ℕ = replicate k b ++ third in
    omega (arith, length-append (replicate k a) second, length-append (replicate k b) third, length-append (replicate k c) rest, length-append (replicate k d) [], length-replicate k a, length-replicate k b, length-replicate k c, length-replicate k d)

pub filled_long : (size host cid block : ℕ) → length (filled size (named host cid block)) ≡ 4 * (size / 8)
filled_long size host cid block = four_long (size / 8) host (cid / 256) (cid % 256) block

eighths : (size : ℕ) → IsBlockSize size → 4 * (size / 8) + 4 * (size / 8) ≡ size
eighths size (inl e) = subst (λ n. 4 * (n / 8) + 4 * (n / 8) ≡ n) (sym e) refl
eighths size (inr e) = subst (λ n. 4 * (n / 8) + 4 * (n / 8) ≡ n) (sym e) refl

pub stamp_long : (size host cid block : ℕ) → IsBlockSize size → length (stamp size host cid block) ≡ size
stamp_long size host cid block valid =
    let half = filled size (named host cid block) in
    omega (arith, length-append half half, filled_long size host cid block, eighths size valid)

times_more : (n size : ℕ) → n * size + size ≡ suc n * size
times_more n size = grind arith

pub stamps_long : (size host cid n : ℕ) → IsBlockSize size → length (stamps size host cid n) ≡ n * size
stamps_long size host cid zero valid = grind arith
stamps_long size host cid (suc n) valid =
    let one : n + 1 ≡ suc n = omega arith in
    let whole : length (stamps size host cid (n + 1)) ≡ n * size + size =
    ap length (stamps_more size host cid n)
    ∙ omega (arith, length-append (stamps size host cid n) (stamp size host cid n), stamps_long size host cid n valid, stamp_long size host cid n valid) in
    ap (λ k. length (stamps size host cid k)) (sym one) ∙ whole ∙ times_more n size

-- the first byte and what is after it
pub same_first : (k a b : ℕ) (xs ys : List ℕ) → 1 ≤ k → replicate k a ++ xs ≡ replicate k b ++ ys → (a ≡ b) × (xs ≡ ys)
same_first zero a b xs ys some e = absurd (omega arith)
same_first (suc k) a b xs ys some e =
    let first : a ≡ b = cc e in
    let behind : replicate (suc k) a ++ xs ≡ replicate (suc k) a ++ ys = e ∙ ap (λ x. replicate (suc k) x ++ ys) (sym first) in
    (first, append_cancel_left (replicate (suc k) a) xs ys behind)

same_four : (k a b c d p q r s : ℕ) → 1 ≤ k → flat_map (replicate k) (a ∷ b ∷ c ∷ d ∷ []) ≡ flat_map (replicate k) (p ∷ q ∷ r ∷ s ∷ [])
    → (a ≡ p) × (b ≡ q) × (c ≡ r) × (d ≡ s)
same_four k a b c d p q r s some e =
    let first = same_first k a p (flat_map (replicate k) (b ∷ c ∷ d ∷ [])) (flat_map (replicate k) (q ∷ r ∷ s ∷ [])) some e in
    let second = same_first k b q (flat_map (replicate k) (c ∷ d ∷ [])) (flat_map (replicate k) (r ∷ s ∷ [])) some first.1 in
    let third = same_first k c r (flat_map (replicate k) (d ∷ [])) (flat_map (replicate k) (s ∷ [])) some second.1 in
    let fourth = same_first k d s [] [] some third.1 in
    (first.0, second.0, third.0, fourth.0)

same_halves : (x y : List ℕ) → length x ≡ length y → x ++ x ≡ y ++ y → x ≡ y
same_halves x y long e = sym (take-append_seam x x) ∙ ap (take (length x)) e ∙ ap (λ n. take n (y ++ y)) long ∙ take-append_seam y y

same_cid : (c d : ℕ) → c / 256 ≡ d / 256 → c % 256 ≡ d % 256 → c ≡ d
same_cid c d high low = omega arith

an_eighth : (size : ℕ) → 8 ≤ size → 1 ≤ size / 8
an_eighth size large = omega arith

pub whose : (size host cid block h c b : ℕ) → 8 ≤ size → stamp size host cid block ≡ stamp size h c b → (host ≡ h) × (cid ≡ c) × (block ≡ b)
whose size host cid block h c b large e =
    let half = same_halves (filled size (named host cid block)) (filled size (named h c b)) (filled_long size host cid block ∙ sym (filled_long size h c b)) e in
    let four = same_four (size / 8) host (cid / 256) (cid % 256) block h (c / 256) (c % 256) b (an_eighth size large) half in
    (four.0, same_cid cid c four.1 four.2, four.3)

same_front : (u v s t : List ℕ) → length u ≡ length v → u ++ s ≡ v ++ t → u ≡ v
same_front u v s t long e = sym (take-append_seam u s) ∙ ap (take (length u)) e ∙ ap (λ n. take n (v ++ t)) long ∙ take-append_seam v t

-- A cut in the first half leaves the second half of the one after.
cut_early : (x y z : List ℕ) (cut : ℕ) → length x ≡ length z → length y ≡ length z → cut ≤ length z → take cut (x ++ x) ++ drop cut (y ++ y) ≡ z ++ z → z ≡ y
cut_early x y z cut long_x long_y early e =
    let front : List ℕ = take cut x ++ drop cut y in
    let parts : front ++ y ≡ z ++ z =
    append_assoc (take cut x) (drop cut y) y
    ∙ sym (ap₂ ◌++◌ (take-append-le cut x x (omega arith)) (drop-append-le cut y y (omega arith)))
    ∙ e in
    let long : length front ≡ length z =
    omega (arith, length-append (take cut x) (drop cut y), length-take cut x, length-drop cut y) in
    let same = same_front front z y z long parts in
    sym (append_cancel_left z y z (ap (λ l. l ++ y) (sym same) ∙ parts))

-- A cut past it leaves the first half of the one before.
cut_late : (x y z : List ℕ) (more : ℕ) → length x ≡ length z → take (length x + more) (x ++ x) ++ drop (length x + more) (y ++ y) ≡ z ++ z → z ≡ x
cut_late x y z more long e =
    let rest : List ℕ = drop (length x + more) (y ++ y) in
    let parts : x ++ (take more x ++ rest) ≡ z ++ z =
    sym (append_assoc x (take more x) rest) ∙ ap (λ l. l ++ rest) (sym (take-append-add x x more)) ∙ e in
    sym (same_front x z (take more x ++ rest) z long parts)

torn_halves : (x y z : List ℕ) (cut : ℕ) → length x ≡ length z → length y ≡ length z → take cut (x ++ x) ++ drop cut (y ++ y) ≡ z ++ z → (z ≡ x) ⊎ (z ≡ y)
torn_halves x y z cut long_x long_y e =
    elim (cases_lt cut (length z)) [
      | inl early ↦ inr (cut_early x y z cut long_x long_y (omega arith) e)
      | inr late ↦
          let at : length x + (cut - length x) ≡ cut = omega arith in
          inl (cut_late x y z (cut - length x) long_x (ap (λ n. take n (x ++ x) ++ drop n (y ++ y)) at ∙ e))
    ]

pub torn : (size host cid block h c b g d e cut : ℕ) → take cut (stamp size host cid block) ++ drop cut (stamp size h c b) ≡ stamp size g d e
    → (stamp size g d e ≡ stamp size host cid block) ⊎ (stamp size g d e ≡ stamp size h c b)
torn size host cid block h c b g d e cut same =
    let x = filled size (named host cid block) in
    let y = filled size (named h c b) in
    let z = filled size (named g d e) in
    elim (torn_halves x y z cut (filled_long size host cid block ∙ sym (filled_long size g d e)) (filled_long size h c b ∙ sym (filled_long size g d e)) same) [
      | inl front ↦ inl (ap (λ l. l ++ l) front)
      | inr behind ↦ inr (ap (λ l. l ++ l) behind)
    ]
