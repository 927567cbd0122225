-- What a list says, line by line, is what it says of its commands.
use Rattle.std.proofs.Common.{◌≡◌, ℕ, suc, zero, ◌+◌, nat_le, if◌then◌else◌, Bool, true, false, List, [], ◌∷◌, ◌++◌, length, map, take, Option, Some, None, Result, Ok, Err, refl, sym, ap, ◌∙◌, subst, arith}
use Rattle.std.specs.List.{filter}
use lib.ListN.{get_elem?}
use mathlib.Core.Option.{some-injective, some-ne-none}
use Rattle.nvm_record.specs.Lists.{IsAt}
use Rattle.nvm_record.specs.declared.command.Command.{Command}
use Rattle.nvm_list.specs.Words.{is_word, text_lines, words}
use Rattle.nvm_list.specs.Lines.{command}
use Rattle.nvm_list.specs.Lists.{command_at, at_line, on_line, in_front, followed_by, commands_from}
use Rattle.nvm_list.specs.Said.{said}
use Rattle.nvm_list.specs.SaidCommands.{IsSaidOf, ListsSayTheirCommands}
use Rattle.nvm_list.specs.declared.expected.Expected.{Expected}
use Rattle.nvm_list.specs.declared.expected.Expected.TheVariants.{NoMoreCommands}
use Rattle.nvm_list.specs.declared.fault.ListFault.{ListFault}
use Rattle.nvm_list.proofs.SaidWords.{said_words, nothing_said, something_said}

abbrev says : List (List ℕ) → List (List ℕ)
says texts = filter is_word (map said texts)

-- ---- one line

read_some : (line : ℕ) (read : Result Command Expected) → at_line line read ≡ Ok None → ⊥
read_some line (Err expected) e = cc
read_some line (Ok c) e = cc

-- a line without a command has no words
none_on : (size line place : ℕ) (ws : List (List ℕ)) → on_line size line place ws ≡ Ok None → ws ≡ []
none_on size line place [] e = refl
none_on size line place (word ∷ ws) e = absurd (read_some line (command_at size place (word ∷ ws)) e)

-- a line with a command has words, which say it
record SaysCommand (size place : ℕ) (ws : List (List ℕ)) (c : Command) : Type 0 where
  word : List ℕ
  more : List (List ℕ)
  are : ws ≡ word ∷ more
  say : command size place ws ≡ Ok c

read_is : (line : ℕ) (c : Command) (read : Result Command Expected) → at_line line read ≡ Ok (Some c) → read ≡ Ok c
read_is line c (Err expected) e = absurd cc
read_is line c (Ok d) e = cc

within : (c : Command) (few : Bool) (read : Result Command Expected) → (if few then read else Err NoMoreCommands) ≡ Ok c → read ≡ Ok c
within c true read e = e
within c false read e = absurd cc

some_on : (size line place : ℕ) (ws : List (List ℕ)) (c : Command) → on_line size line place ws ≡ Ok (Some c) → SaysCommand size place ws c
some_on size line place [] c e = absurd cc
some_on size line place (word ∷ ws) c e =
    let read = read_is line c (command_at size place (word ∷ ws)) e in
    record { word = word; more = ws; are = refl; say = within c (nat_le place 65536) (command size place (word ∷ ws)) read }

silent : (text : List ℕ) (texts : List (List ℕ)) → words text ≡ [] → says (text ∷ texts) ≡ says texts
silent text texts none = rw (nothing_said text none) refl

speaks : (text : List ℕ) (texts : List (List ℕ)) (word : List ℕ) (ws : List (List ℕ)) → words text ≡ word ∷ ws
    → says (text ∷ texts) ≡ said text ∷ says texts
speaks text texts word ws some = rw (something_said text word ws some) refl

-- ---- all lines

-- what is said at place k of these lines, of which the first is line `line` and its command is at place `place`
record IsSaidAmong (size line place : ℕ) (texts : List (List ℕ)) (cs : List Command) (k : ℕ) (c : Command) : Type 0 where
  before : List (List ℕ)
  here : List ℕ
  behind : List (List ℕ)
  n : ℕ
  m : ℕ
  parts : texts ≡ before ++ here ∷ behind
  line_is : n ≡ line + length before
  place_is : m ≡ place + k
  read : commands_from size line place before ≡ Ok (take k cs)
  on : on_line size n m (words here) ≡ Ok (Some c)
  at : IsAt (says texts) k (said here)

record SayThem (size line place : ℕ) (texts : List (List ℕ)) (cs : List Command) : Type 0 where
  as_many : length (says texts) ≡ length cs
  each : (k : ℕ) (c : Command) → IsAt cs k c → IsSaidAmong size line place texts cs k c

abbrev behind_of : ℕ → ℕ → List (List ℕ) → ℕ → Result (List Command) ListFault
behind_of size line texts next = commands_from size (line + 1) next texts

passed : (size line place : ℕ) (text : List ℕ) (texts : List (List ℕ)) (cs : List Command)
    → on_line size line place (words text) ≡ Ok None → SayThem size (line + 1) place texts cs
    → SayThem size line place (text ∷ texts) cs
passed size line place text texts cs e h =
    let same = silent text texts (none_on size line place (words text) e) in
    record {
      as_many = ap length same ∙ h.as_many;
      each =
          λ k c at.
          let it = h.each k c at in
          let line_is : it.n ≡ line + 1 + length it.before = it.line_is in
          record {
            before = text ∷ it.before;
            here = it.here;
            behind = it.behind;
            n = it.n;
            m = it.m;
            parts = ap (λ (ts : List (List ℕ)). text ∷ ts) it.parts;
            line_is = omega arith;
            place_is = it.place_is;
            read = ap (λ (r : Result (Option Command) ListFault). followed_by r place (behind_of size line it.before)) e ∙ it.read;
            on = it.on;
            at = subst (λ (said_all : List (List ℕ)). IsAt said_all k (said it.here)) (sym same) it.at;
          };
    }

taken_at : (size line place : ℕ) (text : List ℕ) (texts : List (List ℕ)) (d : Command) (ds : List Command)
    → on_line size line place (words text) ≡ Ok (Some d) → says (text ∷ texts) ≡ said text ∷ says texts
    → SayThem size (line + 1) (place + 1) texts ds → (k : ℕ) (c : Command) → IsAt (d ∷ ds) k c
    → IsSaidAmong size line place (text ∷ texts) (d ∷ ds) k c
taken_at size line place text texts d ds e more h zero c at = record {
  before = [];
  here = text;
  behind = texts;
  n = line;
  m = place;
  parts = refl;
  line_is = omega arith;
  place_is = omega arith;
  read = refl;
  on = e ∙ ap (λ (x : Command). Ok (Some x)) (some-injective d c at);
  at = ap (λ (all : List (List ℕ)). get_elem? all 0) more;
}
taken_at size line place text texts d ds e more h (suc k) c at =
    let it = h.each k c at in
    let line_is : it.n ≡ line + 1 + length it.before = it.line_is in
    let place_is : it.m ≡ place + 1 + k = it.place_is in
    record {
      before = text ∷ it.before;
      here = it.here;
      behind = it.behind;
      n = it.n;
      m = it.m;
      parts = ap (λ (ts : List (List ℕ)). text ∷ ts) it.parts;
      line_is = omega arith;
      place_is = omega arith;
      read =
          ap (λ (r : Result (Option Command) ListFault). followed_by r place (behind_of size line it.before)) e
          ∙ ap (in_front d) it.read;
      on = it.on;
      at = ap (λ (all : List (List ℕ)). get_elem? all (suc k)) more ∙ it.at;
    }

taken : (size line place : ℕ) (text : List ℕ) (texts : List (List ℕ)) (d : Command) (ds : List Command)
    → on_line size line place (words text) ≡ Ok (Some d) → SayThem size (line + 1) (place + 1) texts ds
    → SayThem size line place (text ∷ texts) (d ∷ ds)
taken size line place text texts d ds e h =
    let there = some_on size line place (words text) d e in
    let more = speaks text texts there.word there.more there.are in
    record {
      as_many = ap length more ∙ ap suc h.as_many;
      each = λ k c at. taken_at size line place text texts d ds e more h k c at;
    }

in_front_ok : (c : Command) (read : Result (List Command) ListFault) (cs : List Command) → in_front c read ≡ Ok cs
    → (ds : List Command) × (read ≡ Ok ds) × (c ∷ ds ≡ cs)
in_front_ok c (Err g) cs e = absurd cc
in_front_ok c (Ok ds) cs e = (ds, refl, cc)

step : (size line place : ℕ) (text : List ℕ) (texts : List (List ℕ)) (cs : List Command) (r : Result (Option Command) ListFault)
    → on_line size line place (words text) ≡ r → followed_by r place (behind_of size line texts) ≡ Ok cs
    → ((next : ℕ) (ds : List Command) → commands_from size (line + 1) next texts ≡ Ok ds → SayThem size (line + 1) next texts ds)
    → SayThem size line place (text ∷ texts) cs
step size line place text texts cs (Err g) e whole rest = absurd cc
step size line place text texts cs (Ok None) e whole rest = passed size line place text texts cs e (rest place cs whole)
step size line place text texts cs (Ok (Some d)) e whole rest =
    let (ds, read, are) = in_front_ok d (commands_from size (line + 1) (place + 1) texts) cs whole in
    subst (λ (all : List Command). SayThem size line place (text ∷ texts) all) are
    (taken size line place text texts d ds e (rest (place + 1) ds read))

say_them : (size line place : ℕ) (texts : List (List ℕ)) (cs : List Command) → commands_from size line place texts ≡ Ok cs
    → SayThem size line place texts cs
say_them size line place [] cs e =
    subst (λ (all : List Command). SayThem size line place [] all) (let are : [] ≡ cs = cc in are)
    (record { as_many = refl; each = λ k c at. absurd (some-ne-none c (sym at)) })
say_them size line place (text ∷ texts) cs e =
    step size line place text texts cs (on_line size line place (words text)) refl e (λ next ds h. say_them size (line + 1) next texts ds h)

said_of : (size : ℕ) (text : List ℕ) (cs : List Command) (k : ℕ) (c : Command) → IsSaidAmong size 1 1 (text_lines text) cs k c
    → IsSaidOf size text cs k c
said_of size text cs k c it =
    let there = some_on size it.n it.m (words it.here) c it.on in
    record {
      line = it.here;
      of = record {
        before = it.before;
        behind = it.behind;
        parts = it.parts;
        read = it.read;
        here =
            subst (λ (n : ℕ). on_line size n (1 + k) (words it.here) ≡ Ok (Some c)) it.line_is
            (subst (λ (m : ℕ). on_line size it.n m (words it.here) ≡ Ok (Some c)) it.place_is it.on);
      };
      says = it.at;
      again =
          ap (command size (1 + k)) (said_words it.here)
          ∙ subst (λ (m : ℕ). command size m (words it.here) ≡ Ok c) it.place_is there.say;
    }

pub lists_say_their_commands : ListsSayTheirCommands
lists_say_their_commands size text cs e =
    let all = say_them size 1 1 (text_lines text) cs e in
    record { as_many = all.as_many; each = λ k c at. said_of size text cs k c (all.each k c at) }
