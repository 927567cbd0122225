-- The rules by which a fact is given, by what is known (own).
use Rattle.std.specs.Prelude.{◌≡◌, ◌≢◌, ℕ, ◌-◌, ◌<◌, true, false, Some, slice_get}
use Rattle.nvm_standard.specs.PointView.{PointView, TableView}
use Rattle.nvm_standard.specs.declared.point.Presence.TheVariants.{Repeated}
use Rattle.nvm_standard.specs.Clauses.{is_put}
use Rattle.nvm_standard.specs.Places.{IsOf}
use Rattle.nvm_standard.specs.declared.fact.Fact.{Fact}
use Rattle.nvm_standard.specs.declared.fact.Fact.TheVariants.{Time, Deallocate, Own, Source, Over, Under, First, AtFirst, TiedBefore, TiedAfter}
use Rattle.nvm_standard.specs.Knowledge.{Knowledge}
use Rattle.nvm_standard.specs.Nodes.{node_at}
use Rattle.nvm_standard.specs.Readings.{IsSource, IsUnserved}
use Rattle.nvm_standard.specs.Serving.{SurelyPuts}
use Rattle.nvm_standard.specs.Times.{ComesBefore, IsDeallocate, IsTime}

-- Where the table has the point, none of its blocks is done any number of times.
abbrev pub IsOnce : TableView → ℕ → Type 0
IsOnce t n = (q : PointView) → slice_get t.points n ≡ Some q → q.presence ≢ Repeated

-- The point comes at the block only after the one before it.
pub record IsOwn (t : TableView) (later x : ℕ) : Type 0 where
  pub some : 0 < later
  pub point : PointView
  pub its : slice_get t.points later ≡ Some point
  pub after : point.after ≡ true
  pub block : IsOf point x
  pub once : IsOnce t (later - 1)

-- The source is the reader's in the block, and the writer, which is neither of them, surely puts it.
pub record IsOverwritten (t : TableView) (K : Knowledge) (writer reader x source : ℕ) : Type 0 where
  pub not_reader : writer ≢ reader
  pub not_source : writer ≢ source
  pub puts : SurelyPuts t K writer x
  pub is_source : IsSource t K source reader x

-- The writer, which surely puts the block, comes before a reader that is there, and whose source is another.
pub record IsUnder (t : TableView) (K : Knowledge) (writer source x reader : ℕ) : Type 0 where
  pub there : K.there (node_at t reader x)
  pub before : ComesBefore t K writer reader x
  pub once : IsOnce t source
  pub overwritten : IsOverwritten t K writer reader x source

-- All blocks are put at one moment, these two among them.
pub record IsEntryOf (q : PointView) (x y : ℕ) : Type 0 where
  pub puts : is_put q.put ≡ true
  pub one_moment : q.each ≡ false
  pub one : IsOf q x
  pub other : IsOf q y

-- The reader is tied, it is there at y, and the entry puts both blocks.
pub record IsTied (t : TableView) (K : Knowledge) (reader x entry y : ℕ) : Type 0 where
  pub not_reader : reader ≢ entry
  pub reading : PointView
  pub reader_is : slice_get t.points reader ≡ Some reading
  pub tied : reading.tied ≡ true
  pub one : IsOf reading x
  pub other : IsOf reading y
  pub putting : PointView
  pub entry_is : slice_get t.points entry ≡ Some putting
  pub both : IsEntryOf putting x y
  pub there : K.there (node_at t reader y)

-- The fact is given by its rule.
abbrev pub IsGiven : TableView → Knowledge → Fact → Type 0
IsGiven t K (Time earlier later) = IsTime t earlier.point later.point
IsGiven t K (Deallocate deallocate writer x) = IsDeallocate t deallocate writer x
IsGiven t K (Own later x) = IsOwn t later x
IsGiven t K (Source writer reader x) = IsOnce t writer × IsSource t K writer reader x
IsGiven t K (Over reader writer x source) = ComesBefore t K source writer x × IsOverwritten t K writer reader x source
IsGiven t K (Under writer source x reader) = IsUnder t K writer source x reader
IsGiven t K (First reader writer x) = (writer ≢ reader) × SurelyPuts t K writer x × IsUnserved t K reader x
IsGiven t K (AtFirst reader x) = K.there (node_at t reader x) × IsUnserved t K reader x
IsGiven t K (TiedBefore reader x entry y) = ComesBefore t K reader entry y × IsTied t K reader x entry y
IsGiven t K (TiedAfter entry reader x y) = ComesBefore t K entry reader y × IsTied t K reader x entry y
