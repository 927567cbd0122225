-- Marks that answers leave, and beginnings of beginnings.
use Rattle.std.proofs.Common.{◌≡◌, ℕ, ◌+◌, ◌/◌, ◌≤◌, Bool, true, false, List, [], ◌∷◌, ◌++◌, length, length-append, append_assoc, subst, refl, sym, ap, ◌∙◌, arith, Result, Ok, Err}
use Rattle.nvm_record.specs.Step.{Operation}
use Rattle.nvm_store.specs.HistoryEntry.{HistoryEntry}
use Rattle.nvm_unit.specs.declared.replies.Changed.{Changed}
use Rattle.nvm_unit.specs.declared.replies.Changed.TheVariants.{Done, Failed, NoMemory, Full}
use Rattle.nvm_unit.specs.declared.replies.Observed.{Observed}
use Rattle.nvm_unit.specs.declared.replies.ObserveFault.{ObserveFault}
use Rattle.nvm_unit.specs.declared.replies.ObserveFault.TheVariants as observe_fault
use Rattle.nvm_unit.specs.declared.views.PassView.{PassView}
use Rattle.nvm_unit.specs.declared.replies.LookFault.{LookFault}
use Rattle.nvm_unit.specs.declared.replies.LookFault.TheVariants as look_fault
use Rattle.nvm_unit.specs.declared.replies.Busy.{Busy}
use Rattle.nvm_unit.specs.Marks.{entries_after, mine_after, number_of_look, number_of_try, point_of_look, HasMarked, HasKeptMarks}
use Rattle.nvm_unit.specs.Passes.{Finds}
use Rattle.nvm_unit.specs.Replies.{point_of, Learns, Looks, Makes, MakesOrLearns, Observes, IsBroughtUp, Meet, entry_of_job}
use Rattle.nvm_unit.specs.Views.{Begins, shown, added}
use Rattle.nvm_unit.proofs.Histories.{begins_all, begins_itself, begins_more, begins_length}

shown_marks : (n : ℕ) (p : PassView) (history : List HistoryEntry) → Finds (length history) p history → n ≡ length history → HasMarked n p (shown true (length history) history p)
shown_marks n p history finds is =
    let floor : p.floor ≤ length history = finds.floor in
    let within : length p.seen ≤ length history = begins_length p.seen history finds.seen in
    record {
      marks = ap (λ (k : ℕ). p.marks ++ k ∷ []) (sym is);
      floor = sym is;
      above = omega arith;
      seen = finds.seen;
      within = omega arith;
    }

added_marks : (n : ℕ) (p : PassView) (history : List HistoryEntry) (entry : HistoryEntry) → Finds (length history) p history → n ≡ length history → HasMarked n p (added (length history) history entry p)
added_marks n p history entry finds is =
    let floor : p.floor ≤ length history = finds.floor in
    let within : length p.seen ≤ length history = begins_length p.seen history finds.seen in
    record {
      marks = ap (λ (k : ℕ). p.marks ++ k ∷ []) (sym is);
      floor = sym is;
      above = omega arith;
      seen = begins_more p.seen history entry finds.seen;
      within = omega arith;
    }

pub change_marks : (changed : Changed) (p q : PassView) (job : ℕ) (op : Operation) → Makes changed p job op q → HasMarked (point_of changed) p q
change_marks (Done point) p q job op makes =
    subst (HasMarked point p) (sym makes.3) (added_marks point p makes.0 (entry_of_job p job op) makes.1 makes.2.0)
change_marks (Failed n statuses) p q job op makes = subst (HasMarked n p) (sym makes.3) (shown_marks n p makes.0 makes.1 makes.2.0)
change_marks (NoMemory n) p q job op makes = subst (HasMarked n p) (sym makes.3) (shown_marks n p makes.0 makes.1 makes.2.0)
change_marks (Full n) p q job op makes = subst (HasMarked n p) (sym makes.3) (shown_marks n p makes.0 makes.1 makes.2.0)

shown_length : (n : ℕ) (p q : PassView) (history : List HistoryEntry) → q ≡ shown true (length history) history p → n ≡ length history → length q.seen ≡ n
shown_length n p q history is same = ap (λ (x : PassView). length x.seen) is ∙ sym same

pub change_entries : (changed : Changed) (p q : PassView) (job : ℕ) (op : Operation) → Makes changed p job op q → length q.seen ≡ entries_after changed
change_entries (Done point) p q job op makes =
    let same : point ≡ length makes.0 = makes.2.0 in
    let one : length (makes.0 ++ entry_of_job p job op ∷ []) ≡ point + 1 = omega (arith, length-append makes.0 (entry_of_job p job op ∷ [])) in
    ap (λ (x : PassView). length x.seen) makes.3 ∙ one
change_entries (Failed n statuses) p q job op makes = shown_length n p q makes.0 makes.3 makes.2.0
change_entries (NoMemory n) p q job op makes = shown_length n p q makes.0 makes.3 makes.2.0
change_entries (Full n) p q job op makes = shown_length n p q makes.0 makes.3 makes.2.0

pub change_mine : (changed : Changed) (p q : PassView) (job : ℕ) (op : Operation) → Makes changed p job op q → q.mine ≡ mine_after changed p job op
change_mine (Done point) p q job op makes =
    ap (λ (x : PassView). x.mine) makes.3 ∙ ap (λ (k : ℕ). p.mine ++ (k, entry_of_job p job op) ∷ []) (sym makes.2.0)
change_mine (Failed n statuses) p q job op makes = ap (λ (x : PassView). x.mine) makes.3
change_mine (NoMemory n) p q job op makes = ap (λ (x : PassView). x.mine) makes.3
change_mine (Full n) p q job op makes = ap (λ (x : PassView). x.mine) makes.3

pub look_marks : (answer : Result Observed ObserveFault) (p q : PassView) (op : Operation) → Observes answer p op q → HasMarked (point_of_look answer) p q
look_marks (Ok observed) p q op observes =
    subst (HasMarked observed.point p) (sym observes.3) (shown_marks observed.point p observes.0 observes.1 observes.2.0)
look_marks (Err (observe_fault.NoMemory n)) p q op observes = subst (HasMarked n p) (sym observes.3) (shown_marks n p observes.0 observes.1 observes.2.0)

pub look_entries : (answer : Result Observed ObserveFault) (p q : PassView) (op : Operation) → Observes answer p op q → length q.seen ≡ point_of_look answer
look_entries (Ok observed) p q op observes = shown_length observed.point p q observes.0 observes.3 observes.2.0
look_entries (Err (observe_fault.NoMemory n)) p q op observes = shown_length n p q observes.0 observes.3 observes.2.0

pub look_mine : (answer : Result Observed ObserveFault) (p q : PassView) (op : Operation) → Observes answer p op q → q.mine ≡ p.mine
look_mine answer p q op observes = ap (λ (x : PassView). x.mine) observes.3

learnt_marks : (n : ℕ) (p q : PassView) → Learns n p q → HasMarked n p q
learnt_marks n p q learns =
    subst (HasMarked n p) (sym learns.1) (record { marks = refl; floor = refl; above = learns.0.floor; seen = begins_itself p.seen; within = learns.0.seen })

learnt_same : (n : ℕ) (p q : PassView) → Learns n p q → (q.seen ≡ p.seen) × (q.mine ≡ p.mine)
learnt_same n p q learns = (ap (λ (x : PassView). x.seen) learns.1, ap (λ (x : PassView). x.mine) learns.1)

pub looked_marks : (answer : Result Observed LookFault) (keeps : Bool) (p q : PassView) (op : Operation) → Looks answer keeps p op q → HasMarked (number_of_look answer) p q
looked_marks (Ok observed) keeps p q op looks = look_marks (Ok observed) p q op looks.1
looked_marks (Err (look_fault.Newer count)) keeps p q op looks = learnt_marks count p q looks.1
looked_marks (Err (look_fault.NoMemory point)) keeps p q op looks = learnt_marks point p q looks.1

pub looked_same : (answer : Result Observed LookFault) (keeps : Bool) (p q : PassView) (op : Operation) → Looks answer keeps p op q → (q.seen ≡ p.seen) × (q.mine ≡ p.mine)
looked_same (Ok observed) keeps p q op looks =
    let all = begins_all p.seen q.seen (look_marks (Ok observed) p q op looks.1).seen (look_entries (Ok observed) p q op looks.1 ∙ looks.0) in
    (all, look_mine (Ok observed) p q op looks.1)
looked_same (Err (look_fault.Newer count)) keeps p q op looks = learnt_same count p q looks.1
looked_same (Err (look_fault.NoMemory point)) keeps p q op looks = learnt_same point p q looks.1

pub tried_marks : (tried : Result Changed Busy) (p q : PassView) (job : ℕ) (op : Operation) → MakesOrLearns tried p job op q → HasMarked (number_of_try tried) p q
tried_marks (Ok changed) p q job op makes = change_marks changed p q job op makes
tried_marks (Err busy) p q job op learns = learnt_marks (busy.word / 2) p q learns.0

pub busy_same : (busy : Busy) (p q : PassView) (job : ℕ) (op : Operation) → MakesOrLearns (Err busy) p job op q → (q.seen ≡ p.seen) × (q.mine ≡ p.mine)
busy_same busy p q job op learns = learnt_same (busy.word / 2) p q learns.0

kept_marks : (p q : PassView) (history : List HistoryEntry) → Finds (length history) p history → q ≡ shown false (length history) history p → HasKeptMarks p q
kept_marks p q history finds is =
    subst (HasKeptMarks p) (sym is) (record { marks = refl; mine = refl; floor = refl; above = finds.floor; seen = finds.seen })

pub brought_up : (p q : PassView) → IsBroughtUp p q → HasKeptMarks p q
brought_up p q up = kept_marks p q up.0 up.1 up.2

pub meeting : (p o q r : PassView) → Meet p o q r → HasKeptMarks p q × HasKeptMarks o r × (q.seen ≡ r.seen)
meeting p o q r meet = (
  kept_marks p q meet.0 meet.1 meet.3,
  kept_marks o r meet.0 meet.2 meet.4,
  ap (λ (x : PassView). x.seen) meet.3 ∙ sym (ap (λ (x : PassView). x.seen) meet.4),
)

pub begins_further : (a b c : List HistoryEntry) → Begins a b → Begins b c → Begins a c
begins_further a b c first then_ =
    (first.0 ++ then_.0, then_.1 ∙ (ap (λ (x : List HistoryEntry). x ++ then_.0) first.1 ∙ append_assoc a first.0 then_.0))

-- Of two that begin one history, the shorter begins the longer.
pub shorter_begins : (a b history : List HistoryEntry) → Begins a history → Begins b history → length a ≤ length b → Begins a b
shorter_begins [] b history first second le = (b, refl)
shorter_begins (x ∷ xs) [] history first second le = absurd (omega arith)
shorter_begins (x ∷ xs) (y ∷ ys) history first second le =
    let same : x ∷ (xs ++ first.0) ≡ y ∷ (ys ++ second.0) = sym first.1 ∙ second.1 in
    let head : x ≡ y = cc in
    let tail : xs ++ first.0 ≡ ys ++ second.0 = cc in
    let rest : Begins xs ys = shorter_begins xs ys (xs ++ first.0) (first.0, refl) (second.0, tail) (omega arith) in
    (rest.0, ap (λ (l : HistoryEntry). l ∷ ys) (sym head) ∙ ap (λ (ls : List HistoryEntry). x ∷ ls) rest.1)
