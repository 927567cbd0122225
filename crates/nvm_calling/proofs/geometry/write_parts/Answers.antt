use Rattle.std.proofs.Common.{◌≡◌, ◌∙◌, ℕ, ◌+◌, ◌-◌, ◌*◌, ◌≤◌, List, [], ◌∷◌, ◌++◌, length, map, take, drop, sym, subst, ap, append_assoc, append-nil, All, arith}
use Rattle.std.proofs.lemmas.List.{map-append, length-take-le, length-drop}
use Rattle.std.proofs.lemmas.List.Elements.{All-push}
use Rattle.std.proofs.Math.Nat.{mul-le-mul_right}
use Rattle.std.proofs.lemmas.Grind.{flat_map-append}
use Rattle.std.proofs.Math.Seq.{take-add}
use Rattle.std.specs.List.{flat_map}
use Rattle.nvm_geometry.specs.Parts.{AreInLine}
use Rattle.nvm_geometry.specs.declared.piece.Piece.{Piece}
use Rattle.nvm_calling.specs.declared.geometry.WritePart.{WritePart}
use Rattle.nvm_calling.proofs.geometry.write_parts.Goals as goal

-- One piece more has its part, and one less is left.
one_piece : (parts more : List WritePart) (part : WritePart) (rest all : List Piece) → more ≡ parts ++ part ∷ []
    → map (λ p. p.piece) parts ++ (part.piece ∷ rest) ≡ all → map (λ p. p.piece) more ++ rest ≡ all
one_piece parts more part rest all is before =
    ap (λ (ps : List WritePart). map (λ p. p.piece) ps ++ rest) is
    ∙ (ap (λ (ps : List Piece). ps ++ rest) (map-append (λ (p : WritePart). p.piece) parts (part ∷ []))
    ∙ (append_assoc (map (λ p. p.piece) parts) (part.piece ∷ []) rest ∙ before))

-- Behind the first of the pieces in line the others go on.
next_line : (slba skipped blocks : ℕ) (p : Piece) (rest : List Piece) → skipped ≤ blocks
    → AreInLine (slba + skipped) (blocks - skipped) (p ∷ rest)
    → (skipped + p.blocks ≤ blocks) × AreInLine (slba + (skipped + p.blocks)) (blocks - (skipped + p.blocks)) rest
next_line slba skipped blocks p rest few line =
    let little : p.blocks ≤ blocks - skipped = line.2 in
    let first : slba + skipped + p.blocks ≡ slba + (skipped + p.blocks) = omega arith in
    let left : blocks - skipped - p.blocks ≡ blocks - (skipped + p.blocks) = omega arith in (
      omega arith,
      subst (λ (at : ℕ). AreInLine at (blocks - (skipped + p.blocks)) rest) first
          (subst (λ (n : ℕ). AreInLine (slba + skipped + p.blocks) n rest) left line.3),
    )

-- The first bytes and those behind them are the first of both counts.
joined_bytes : (xs ys payload : List ℕ) (n m : ℕ) → xs ≡ take n payload → ys ≡ take (n + m - n) (drop n payload)
    → xs ++ (ys ++ []) ≡ take (n + m) payload
joined_bytes xs ys payload n m before is =
    let less : n + m - n ≡ m = omega arith in
    ap (λ (zs : List ℕ). zs ++ (ys ++ [])) before
    ∙ (ap (λ (zs : List ℕ). take n payload ++ zs) (append-nil ys ∙ (is ∙ ap (λ (k : ℕ). take k (drop n payload)) less))
    ∙ sym (take-add n m payload))

-- One part more has the bytes of its blocks.
one_part : (parts more : List WritePart) (part : WritePart) (payload : List ℕ) (skipped blocks size : ℕ) → more ≡ parts ++ part ∷ []
    → flat_map (λ p. p.payload) parts ≡ take (skipped * size) payload
    → part.payload ≡ take (skipped * size + blocks * size - skipped * size) (drop (skipped * size) payload)
    → flat_map (λ p. p.payload) more ≡ take ((skipped + blocks) * size) payload
one_part parts more part payload skipped blocks size is before its =
    let both : skipped * size + blocks * size ≡ (skipped + blocks) * size = omega arith in
    ap (λ (ps : List WritePart). flat_map (λ p. p.payload) ps) is
    ∙ (flat_map-append (λ (p : WritePart). p.payload) parts (part ∷ [])
    ∙ (joined_bytes (flat_map (λ p. p.payload) parts) part.payload payload (skipped * size) (blocks * size) before its
    ∙ ap (λ (k : ℕ). take k payload) both))

-- A part has the bytes of its blocks, where all of them are there.
part_size : (ys payload : List ℕ) (skipped blocks size all : ℕ) → skipped + blocks ≤ all → length payload ≡ all * size
    → ys ≡ take (skipped * size + blocks * size - skipped * size) (drop (skipped * size) payload) → length ys ≡ blocks * size
part_size ys payload skipped blocks size all few len is =
    let within : (skipped + blocks) * size ≤ all * size = mul-le-mul_right size few in
    let less : skipped * size + blocks * size - skipped * size ≡ blocks * size = omega arith in
    let room : skipped * size + blocks * size - skipped * size ≤ length (drop (skipped * size) payload) =
    omega (arith, length-drop (skipped * size) payload, within, len) in
    ap (λ (zs : List ℕ). length zs) is ∙ (length-take-le _ (drop (skipped * size) payload) room ∙ less)

pub loop-piece-preserved : goal.loop-piece-preserved
loop-piece-preserved c =
    let parts = c.loop-piece.parts.items in
    let piece = c.in-Some.piece in
    let part : WritePart = record { piece = piece; payload = c.in_ok-part.part } in
    let rest = c.next.new.self in
    let more = c.in_ok-push.ensures.items in
    let skipped = c.loop-piece.skipped in
    let line = next_line c.args.slba skipped c.args.blocks piece rest c.loop-piece.invariant.few
    (subst (λ (ps : List Piece). AreInLine (c.args.slba + skipped) (c.args.blocks - skipped) ps) c.in-Some.ensures.steps c.loop-piece.invariant.line) in
    let P : WritePart → Type 0 = λ p. length p.payload ≡ p.piece.blocks * c.bytes-size.result in
    let len : length c.args.payload.now ≡ c.args.blocks * c.bytes-size.result =
    c.requires.payload ∙ ap (λ (n : ℕ). c.args.blocks * n) (sym (c.bytes-size.ensures.value ∙ c.block_size.ensures.value)) in
    let its = part_size part.payload c.args.payload.now skipped piece.blocks c.bytes-size.result c.args.blocks line.0 len c.in_ok-part.ensures in
    record {
      pieces = one_piece parts _ part rest _ more (ap (λ (ps : List Piece). map (λ p. p.piece) parts ++ ps) (sym c.in-Some.ensures.steps) ∙ c.loop-piece.invariant.pieces);
      few = line.0;
      line = line.1;
      sizes = subst (λ (ps : List WritePart). All P ps) (sym more) (All-push P parts part c.loop-piece.invariant.sizes its);
      written = one_part parts _ part c.args.payload.now skipped piece.blocks c.bytes-size.result more c.loop-piece.invariant.written c.in_ok-part.ensures;
    }
