-- A done job is read at its place: of the workers' lists the one of its worker, and of that list the place.
use Rattle.std.proofs.Common.{◌≡◌, ℕ, ◌<◌, List, length, map, get_or, refl, sym, ap, ◌∙◌, subst, arith}
use Rattle.std.proofs.lemmas.List.{length-map}
use Rattle.nvm_record.specs.Lists.{IsAt}
use Rattle.nvm_audit.specs.RecordedJob.{RecordedJob}
use Rattle.nvm_audit.proofs.Counting.{item_in_map}
use Rattle.nvm_audit.proofs.Standing.{below, one_there, read_is}
use Rattle.nvm_audit.specs.DoneJobs.{IsDoneJob}
use Rattle.nvm_audit.specs.DonePlaces.{IsDonePlace, IsNoted}
use Rattle.nvm_audit.specs.declared.done_jobs.DonePlace.{DonePlace}

-- Where it is noted that a done job is, it is.
pub read_place : (done : List (List RecordedJob)) (places : List DonePlace) (number : ℕ) (read d : DonePlace) → IsNoted done places number
    → read ≡ get_or places number d → IsDonePlace done number read
read_place done places number read d noted is =
    subst (λ (it : DonePlace). IsDonePlace done number it) (sym (is ∙ read_is places number noted.there d noted.noted)) noted.is

pub placed_done : (done : List (List RecordedJob)) (places : List DonePlace) (number : ℕ) → IsNoted done places number
    → (its : RecordedJob) × IsDoneJob done number its
placed_done done places number noted = (
  noted.is.its,
  record {
    number_is = noted.is.number_is;
    worker = noted.there.worker;
    work = noted.is.work;
    place = noted.there.place;
    by = noted.is.by;
    there = noted.is.there;
  },
)

-- of any lists that are seen as those of done jobs
module _ {V : Type 0} (items : V → List RecordedJob) (vs : List V) (number : ℕ) (it : DonePlace) (is : IsDonePlace (map items vs) number it) where
  pub worker_below : it.worker < length vs
  worker_below = let lt = below (map items vs) it.worker is.work is.by in omega (arith, lt, length-map vs items)

  module _ (v : V) (v_is : v ≡ get_or vs it.worker v) where
    its_work : IsAt (map items vs) it.worker (items v)
    its_work = item_in_map items vs vs it.worker v refl worker_below v_is

    there : IsAt (items v) it.place is.its
    there =
        subst (λ (work : List RecordedJob). IsAt work it.place is.its) (one_there (map items vs) it.worker is.work (items v) is.by its_work) is.there

    pub place_below : it.place < length (items v)
    place_below = below (items v) it.place is.its there

    pub done_job : (d e : RecordedJob) → d ≡ get_or (items v) it.place e → IsDoneJob (map items vs) number d
    done_job d e d_is =
        let same : is.its ≡ d = sym (d_is ∙ read_is (items v) it.place is.its e there) in
        record {
          number_is = ap (λ (x : RecordedJob). x.job) (sym same) ∙ is.number_is;
          worker = it.worker;
          work = items v;
          place = it.place;
          by = its_work;
          there = subst (λ (x : RecordedJob). IsAt (items v) it.place x) same there;
        }
