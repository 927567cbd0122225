-- The fault of lines is that of the first that is no command.
use Rattle.std.proofs.Common.{◌≡◌, ℕ, ◌+◌, List, [], ◌∷◌, ◌++◌, length, Option, Some, None, Result, Ok, Err, refl, sym, ap, ◌∙◌, subst, arith}
use Rattle.nvm_record.specs.declared.command.Command.{Command}
use Rattle.nvm_list.specs.Words.{text_lines, words}
use Rattle.nvm_list.specs.Lists.{command_at, at_line, on_line, in_front, followed_by, commands_from, commands}
use Rattle.nvm_list.specs.FirstFault.{IsFirstListFault, FaultsAreFirst}
use Rattle.nvm_list.specs.declared.expected.Expected.{Expected}
use Rattle.nvm_list.specs.declared.fault.ListFault.{ListFault}
use Rattle.nvm_list.specs.declared.fault.ListFault.TheVariants.{Line}

-- where the first line that is refused is, with the commands before it
record IsStopped (size line place : ℕ) (texts : List (List ℕ)) (fault : ListFault) (before : List (List ℕ)) (here : List ℕ) (behind : List (List ℕ)) (cs : List Command) (n m : ℕ) : Type 0 where
  parts : texts ≡ before ++ here ∷ behind
  line_is : n ≡ line + length before
  place_is : m ≡ place + length cs
  read : commands_from size line place before ≡ Ok cs
  refused : on_line size n m (words here) ≡ Err fault

abbrev Stops : ℕ → ℕ → ℕ → List (List ℕ) → ListFault → Type 0
Stops size line place texts fault =
    (before : List (List ℕ)) × (here : List ℕ) × (behind : List (List ℕ)) × (cs : List Command) × (n : ℕ) × (m : ℕ) × IsStopped size line place texts fault before here behind cs n m

in_front_err : (c : Command) (read : Result (List Command) ListFault) (fault : ListFault) → in_front c read ≡ Err fault → read ≡ Err fault
in_front_err c (Err g) fault e = e
in_front_err c (Ok cs) fault e = absurd cc

abbrev behind_of : ℕ → ℕ → List (List ℕ) → ℕ → Result (List Command) ListFault
behind_of size line texts next = commands_from size (line + 1) next texts

passed : (size line place : ℕ) (text : List ℕ) (texts : List (List ℕ)) (fault : ListFault) → on_line size line place (words text) ≡ Ok None → Stops size (line + 1) place texts fault → Stops size line place (text ∷ texts) fault
passed size line place text texts fault e (before, here, behind, cs, n, m, h) =
    let line_is : n ≡ line + 1 + length before = h.line_is in (
      text ∷ before,
      here,
      behind,
      cs,
      n,
      m,
      record {
        parts = ap (λ (ts : List (List ℕ)). text ∷ ts) h.parts;
        line_is = omega arith;
        place_is = h.place_is;
        read = ap (λ (r : Result (Option Command) ListFault). followed_by r place (behind_of size line before)) e ∙ h.read;
        refused = h.refused;
      },
    )

taken : (size line place : ℕ) (text : List ℕ) (texts : List (List ℕ)) (fault : ListFault) (c : Command) → on_line size line place (words text) ≡ Ok (Some c) → Stops size (line + 1) (place + 1) texts fault → Stops size line place (text ∷ texts) fault
taken size line place text texts fault c e (before, here, behind, cs, n, m, h) =
    let line_is : n ≡ line + 1 + length before = h.line_is in
    let place_is : m ≡ place + 1 + length cs = h.place_is in (
      text ∷ before,
      here,
      behind,
      c ∷ cs,
      n,
      m,
      record {
        parts = ap (λ (ts : List (List ℕ)). text ∷ ts) h.parts;
        line_is = omega arith;
        place_is = omega arith;
        read = ap (λ (r : Result (Option Command) ListFault). followed_by r place (behind_of size line before)) e ∙ ap (in_front c) h.read;
        refused = h.refused;
      },
    )

stopped : (size line place : ℕ) (text : List ℕ) (texts : List (List ℕ)) (fault : ListFault) → on_line size line place (words text) ≡ Err fault → Stops size line place (text ∷ texts) fault
stopped size line place text texts fault e =
    ([], text, texts, [], line, place, record { parts = refl; line_is = omega arith; place_is = omega arith; read = refl; refused = e })

abbrev failed : ListFault → Result (List Command) ListFault
failed fault = Err fault

same_fault : (f g : ListFault) → failed f ≡ failed g → f ≡ g
same_fault f g e = cc

step : (size line place : ℕ) (text : List ℕ) (texts : List (List ℕ)) (fault : ListFault) (r : Result (Option Command) ListFault) → on_line size line place (words text) ≡ r
    → followed_by r place (behind_of size line texts) ≡ Err fault → ((next : ℕ) → commands_from size (line + 1) next texts ≡ Err fault → Stops size (line + 1) next texts fault)
    → Stops size line place (text ∷ texts) fault
step size line place text texts fault (Err g) e whole rest = stopped size line place text texts fault (e ∙ ap (λ (f : ListFault). Err f) (same_fault g fault whole))
step size line place text texts fault (Ok None) e whole rest = passed size line place text texts fault e (rest place whole)
step size line place text texts fault (Ok (Some c)) e whole rest = taken size line place text texts fault c e (rest (place + 1) (in_front_err c (commands_from size (line + 1) (place + 1) texts) fault whole))

stops : (size line place : ℕ) (texts : List (List ℕ)) (fault : ListFault) → commands_from size line place texts ≡ Err fault → Stops size line place texts fault
stops size line place [] fault e = absurd cc
stops size line place (text ∷ texts) fault e =
    step size line place text texts fault (on_line size line place (words text)) refl e (λ next h. stops size (line + 1) next texts fault h)

-- ---- and back

in_front_ok : (c : Command) (read : Result (List Command) ListFault) (cs : List Command) → in_front c read ≡ Ok cs → (ds : List Command) × (read ≡ Ok ds) × (cs ≡ c ∷ ds)
in_front_ok c (Err g) cs e = absurd cc
in_front_ok c (Ok ds) cs e = (ds, refl, cc)

back_step : (size line place : ℕ) (text : List ℕ) (before : List (List ℕ)) (here : List ℕ) (behind : List (List ℕ)) (cs : List Command) (fault : ListFault) (r : Result (Option Command) ListFault)
    → followed_by r place (behind_of size line before) ≡ Ok cs
    → ((n m : ℕ) → n ≡ line + 1 + length before → m ≡ place + length cs → on_line size n m (words here) ≡ Err fault)
    → ((next : ℕ) (ds : List Command) → commands_from size (line + 1) next before ≡ Ok ds → ((n m : ℕ) → n ≡ line + 1 + length before → m ≡ next + length ds → on_line size n m (words here) ≡ Err fault) → commands_from size (line + 1) next (before ++ here ∷ behind) ≡ Err fault)
    → followed_by r place (behind_of size line (before ++ here ∷ behind)) ≡ Err fault
back_step size line place text before here behind cs fault (Err g) read refused rest = absurd cc
back_step size line place text before here behind cs fault (Ok None) read refused rest = rest place cs read refused
back_step size line place text before here behind cs fault (Ok (Some c)) read refused rest =
    let parts = in_front_ok c (commands_from size (line + 1) (place + 1) before) cs read in
    let long : length cs ≡ length (c ∷ parts.0) = ap length parts.2 in
    ap (in_front c) (rest (place + 1) parts.0 parts.1 (λ n m a b. refused n m a (omega arith)))

back : (size line place : ℕ) (before : List (List ℕ)) (here : List ℕ) (behind : List (List ℕ)) (cs : List Command) (fault : ListFault) → commands_from size line place before ≡ Ok cs
    → ((n m : ℕ) → n ≡ line + length before → m ≡ place + length cs → on_line size n m (words here) ≡ Err fault) → commands_from size line place (before ++ here ∷ behind) ≡ Err fault
back size line place [] here behind cs fault read refused =
    let none : cs ≡ [] = cc in
    let empty : length cs ≡ 0 = ap length none in
    ap (λ (r : Result (Option Command) ListFault). followed_by r place (behind_of size line behind)) (refused line place (omega arith) (omega arith))
back size line place (text ∷ before) here behind cs fault read refused =
    back_step size line place text before here behind cs fault (on_line size line place (words text)) read (λ n m a b. refused n m (omega arith) b)
    (λ next ds h k. back size (line + 1) next before here behind ds fault h k)

-- ---- the number of the line

abbrev found : ListFault → Result (Option Command) ListFault
found fault = Err fault

same_line : (a b : ℕ) (d e : Expected) → found (Line a d) ≡ found (Line b e) → a ≡ b
same_line a b d e h = cc

line_of_read : (line n : ℕ) (expected : Expected) (read : Result Command Expected) → at_line n read ≡ Err (Line line expected) → line ≡ n
line_of_read line n expected (Err e) h = sym (same_line n line e expected h)
line_of_read line n expected (Ok c) h = absurd cc

line_of_fault : (size line n place : ℕ) (expected : Expected) (ws : List (List ℕ)) → on_line size n place ws ≡ Err (Line line expected) → line ≡ n
line_of_fault size line n place expected [] h = absurd cc
line_of_fault size line n place expected (w ∷ ws) h = line_of_read line n expected (command_at size place (w ∷ ws)) h

first_of : (size : ℕ) (text : List ℕ) (line : ℕ) (expected : Expected) → Stops size 1 1 (text_lines text) (Line line expected) → IsFirstListFault size text line expected
first_of size text line expected (before, here, behind, cs, n, m, h) =
    let number : line ≡ n = line_of_fault size line n m expected (words here) h.refused in (
      before,
      here,
      behind,
      cs,
      record {
        parts = h.parts;
        number = number ∙ h.line_is;
        read = h.read;
        refused = subst (λ (k : ℕ). on_line size k (1 + length cs) (words here) ≡ Err (Line line expected)) (sym number) (subst (λ (k : ℕ). on_line size n k (words here) ≡ Err (Line line expected)) h.place_is h.refused);
      },
    )

refused_at : (size : ℕ) (text : List ℕ) (line : ℕ) (expected : Expected) → IsFirstListFault size text line expected → commands size text ≡ Err (Line line expected)
refused_at size text line expected (before, here, behind, cs, h) =
    ap (commands_from size 1 1) h.parts
    ∙ back size 1 1 before here behind cs (Line line expected) h.read
    (λ n m a b. subst (λ (k : ℕ). on_line size k m (words here) ≡ Err (Line line expected)) (h.number ∙ sym a) (subst (λ (k : ℕ). on_line size line k (words here) ≡ Err (Line line expected)) (sym b) h.refused))

pub faults_are_first : FaultsAreFirst
faults_are_first size text line expected = ((λ e. first_of size text line expected (stops size 1 1 (text_lines text) (Line line expected) e)), (λ h. refused_at size text line expected h))
