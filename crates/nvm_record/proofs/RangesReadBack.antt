-- The data of ranges is read as these ranges.
use Rattle.std.proofs.Common.{inl, inr, ◌^◌, ◌≡◌, ℕ, zero, suc, ◌+◌, ◌*◌, ◌/◌, ◌<◌, List, [], ◌∷◌, ◌++◌, length, get_or, drop, map, refl, ap, ap₂, ◌∙◌, arith, add-one, length-append}
use Rattle.std.proofs.Math.Nat.{add-div_left}
use Rattle.std.proofs.lemmas.List.FromFn.{length-map-range_with_len, get_or-map-range_with_len}
use Rattle.std.proofs.Math.Seq.{drop-append-add}
use Rattle.std.proofs.lemmas.Bool.{cases_lt}
use Rattle.std.proofs.lemmas.List.{get_or_past, get_or-drop}
use Rattle.std.proofs.lemmas.List.Elements.{All-map, All-head, All-tail}
use Rattle.std.specs.List.{All, range_with_len}
use Rattle.byteorder.specs.Numbers.{little_from-lt, little_number-reads_back}
use Rattle.byteorder.specs.Endian.{little_number, little_bytes}
use Rattle.nvm_record.specs.Ranges.{range_at, range_bytes, range_count, ranges_of, data_of_ranges, FitsItsBytes}
use Rattle.nvm_record.specs.declared.lba_range.LbaRange.{LbaRange}

pub length-range_bytes : (r : LbaRange) → length (range_bytes r) ≡ 16
length-range_bytes r = refl

pub length-data_of_ranges : (rs : List LbaRange) → length (data_of_ranges rs) ≡ length rs * 16
length-data_of_ranges [] = refl
length-data_of_ranges (r ∷ rs) =
    omega (arith, length-append (range_bytes r) (data_of_ranges rs), length-range_bytes r, length-data_of_ranges rs)

-- the range in front
first_range : (r : LbaRange) (rest : List ℕ) → FitsItsBytes r → range_at (range_bytes r ++ rest) 0 ≡ r
first_range r rest fits =
    let first : little_number 8 (drop 8 (range_bytes r ++ rest)) ≡ r.first =
    little_number-reads_back 8 r.first rest fits.0 in
    let blocks : little_number 4 (drop 4 (range_bytes r ++ rest)) ≡ r.blocks =
    little_number-reads_back 4 r.blocks (little_bytes 8 r.first ++ rest) fits.1 in
    ap₂ (λ (f b : ℕ). record { first = f; blocks = b }) first blocks

-- a range in front moves the places of the others on by one
dropped : (r : LbaRange) (rest : List ℕ) (n : ℕ) → drop (16 + n) (range_bytes r ++ rest) ≡ drop n rest
dropped r rest n = drop-append-add (range_bytes r) rest n

next_range : (r : LbaRange) (rest : List ℕ) (i : ℕ) → range_at (range_bytes r ++ rest) (i + 1) ≡ range_at rest i
next_range r rest i =
    let at_first : (i + 1) * 16 + 8 ≡ 16 + (i * 16 + 8) = omega arith in
    let at_blocks : (i + 1) * 16 + 4 ≡ 16 + (i * 16 + 4) = omega arith in
    ap₂ (λ (f b : List ℕ). record { first = little_number 8 f; blocks = little_number 4 b })
    (ap (λ (n : ℕ). drop n (range_bytes r ++ rest)) at_first ∙ dropped r rest (i * 16 + 8))
    (ap (λ (n : ℕ). drop n (range_bytes r ++ rest)) at_blocks ∙ dropped r rest (i * 16 + 4))

next_ranges : (r : LbaRange) (rest : List ℕ) (a n : ℕ)
    → map (range_at (range_bytes r ++ rest)) (range_with_len (a + 1) n) ≡ map (range_at rest) (range_with_len a n)
next_ranges r rest a zero = refl
next_ranges r rest a (suc n) =
    ap₂ (λ (x : LbaRange) (xs : List LbaRange). x ∷ xs) (next_range r rest a) (next_ranges r rest (a + 1) n)

count_more : (r : LbaRange) (rest : List ℕ) → range_count (range_bytes r ++ rest) ≡ suc (range_count rest)
count_more r rest =
    ap (λ (n : ℕ). n / 16) (length-append (range_bytes r) rest)
    ∙ add-div_left (length rest) (omega arith)
    ∙ add-one (length rest / 16)

pub read_one_more : (r : LbaRange) (rest : List ℕ) → FitsItsBytes r
    → ranges_of (range_bytes r ++ rest) ≡ r ∷ ranges_of rest
read_one_more r rest fits =
    let all : List ℕ = range_bytes r ++ rest in
    ap (λ (n : ℕ). map (range_at all) (range_with_len 0 n)) (count_more r rest)
    ∙ ap₂ (λ (x : LbaRange) (xs : List LbaRange). x ∷ xs) (first_range r rest fits)
    (next_ranges r rest 0 (range_count rest))

pub read_back : (rs : List LbaRange) → All FitsItsBytes rs → ranges_of (data_of_ranges rs) ≡ rs
read_back [] fit = refl
read_back (r ∷ rs) fit =
    read_one_more r (data_of_ranges rs) (All-head FitsItsBytes r rs fit)
    ∙ ap (λ (xs : List LbaRange). r ∷ xs) (read_back rs (All-tail FitsItsBytes r rs fit))

pub length-ranges_of : (payload : List ℕ) → length (ranges_of payload) ≡ range_count payload
length-ranges_of payload = length-map-range_with_len (range_at payload) 0 (range_count payload)

pub get_or-ranges_of : (payload : List ℕ) (i : ℕ) (d : LbaRange) → i < range_count payload
    → get_or (ranges_of payload) i d ≡ range_at payload i
get_or-ranges_of payload i d here =
    get_or-map-range_with_len (range_at payload) 0 (range_count payload) i i d here (omega arith)

-- what is read of bytes fits

bytes_everywhere : (payload : List ℕ) → All (λ b. b < 256) payload → (i : ℕ) → get_or payload i 0 < 256
bytes_everywhere payload bytes i =
    elim (cases_lt i (length payload)) [
      | inl here ↦ bytes i 0 here
      | inr past ↦ rw (get_or_past payload i 0 past) (omega arith)
    ]

number_fits : (n at : ℕ) (payload : List ℕ) → All (λ b. b < 256) payload → little_number n (drop at payload) < 256 ^ n
number_fits n at payload bytes =
    little_from-lt 0 n (drop at payload)
    (λ i. rw (get_or-drop at payload i 0) (bytes_everywhere payload bytes (at + i)))

pub read_ranges_fit : (payload : List ℕ) → All (λ b. b < 256) payload → All FitsItsBytes (ranges_of payload)
read_ranges_fit payload bytes =
    let places : List ℕ = range_with_len 0 (range_count payload) in
    let each : (i : ℕ) → FitsItsBytes (range_at payload i) =
    λ i. (number_fits 8 (i * 16 + 8) payload bytes, number_fits 4 (i * 16 + 4) payload bytes) in
    All-map FitsItsBytes (range_at payload) places (λ k d h. each (get_or places k d))
