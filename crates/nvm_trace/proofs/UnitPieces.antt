-- The pieces of a job in its units, one unit after the other.
use Rattle.std.proofs.Common.{◌≡◌, ℕ, ◌+◌, ◌<◌, ◌≤◌, List, [], ◌∷◌, ◌++◌, length, map, cond, Bool, true, false, Contains, refl, sym, ap, subst, ◌∙◌}
use Rattle.std.specs.Prelude.{Some}
use Rattle.std.proofs.lemmas.List.{append_assoc, map-append}
use Rattle.nvm_record.specs.Lists.{IsAt}
use Rattle.nvm_record.specs.Deeds.{IsOnRange}
use Rattle.nvm_record.specs.Op.{carries_ranges}
use Rattle.nvm_record.specs.Step.{Deed, Operation, writes, zeroes, uncorrectable, reads, compares}
use Rattle.nvm_record.specs.declared.command.Command.{Command}
use Rattle.nvm_record.specs.declared.op.Op.{Op}
use Rattle.nvm_record.specs.declared.op.Op.TheVariants.{Write, Read, WriteUncorrectable, Compare, WriteZeroes, Dataset, Other}
use Rattle.nvm_geometry.specs.Boundaries.{units_of}
use Rattle.nvm_geometry.specs.Namespace.{Namespace}
use Rattle.nvm_geometry.specs.Parts.{part_in, piece_in, units_met}
use Rattle.nvm_geometry.specs.Place.{IsPlaceOf}
use Rattle.nvm_plan.specs.JobPart.{job_units}
use Rattle.nvm_plan.specs.Operation.{job_operation_of, operation_of_body, single_operation, on_range}
use Rattle.nvm_plan.specs.Profile.{is_in_profile}
use Rattle.nvm_plan.specs.Ready.{IsReady, IsReadyBody, IsReadySingle, LiesInNamespace}
use Rattle.nvm_plan.specs.declared.job.Body.{Body}
use Rattle.nvm_plan.specs.declared.job.Body.TheVariants.{Single, Pair}
use Rattle.nvm_plan.specs.declared.job.Job.{Job}
use Rattle.nvm_trace.specs.declared.cut.Cut.TheVariants.{InUnit}
use Rattle.nvm_trace.specs.declared.traced_job.TracedJob.{TracedJob}
use Rattle.nvm_trace.specs.declared.witness_fault.WitnessFault.{WitnessFault}
use Rattle.nvm_trace.specs.Inside.Cutting.{HasLbasIn, HasBodyIn}
use Rattle.nvm_trace.specs.Inside.Matching.{IsOtherFault}
use Rattle.nvm_trace.specs.Pieces.{Piece, piece}
use Rattle.nvm_trace.proofs.Matched.{at_left, at_end, fault_in_more}
use Rattle.nvm_trace.proofs.Places.{contained}

-- the pieces in these units
abbrev pub in_units : TracedJob → List ℕ → List Piece
in_units j units = map (piece j) (map InUnit units)

module _ (done : List ℕ) (unit : ℕ) (after rest all : List ℕ) (next : rest ≡ unit ∷ after) (split : done ++ rest ≡ all) where
  -- One unit more is done.
  pub split_more : (done ++ unit ∷ []) ++ after ≡ all
  split_more = append_assoc done (unit ∷ []) after ∙ ap (λ (l : List ℕ). done ++ l) (sym next) ∙ split

  pub unit_there : Contains all unit
  unit_there =
      contained all (length done) unit
      (subst (λ (l : List ℕ). IsAt l (length done) unit) split_more (at_left (done ++ unit ∷ []) after (length done) unit (at_end done unit)))

  in_both : (j : TracedJob) (xs ys : List ℕ) → in_units j (xs ++ ys) ≡ in_units j xs ++ in_units j ys
  in_both j xs ys = ap (map (piece j)) (map-append InUnit xs ys) ∙ map-append (piece j) (map InUnit xs) (map InUnit ys)

  pub pieces_more : (ps : List Piece) (j : TracedJob) → (ps ++ in_units j done) ++ piece j (InUnit unit) ∷ [] ≡ ps ++ in_units j (done ++ unit ∷ [])
  pieces_more ps j =
      append_assoc ps (in_units j done) (piece j (InUnit unit) ∷ []) ∙ ap (λ (qs : List Piece). ps ++ qs) (sym (in_both j done (unit ∷ [])))

  -- A fault of the pieces up to this unit is one of all.
  pub unit_fault : (ns : Namespace) (ps : List Piece) (j : TracedJob) (jobs : List Job) (fault : WitnessFault)
      → IsOtherFault ns ((ps ++ in_units j done) ++ piece j (InUnit unit) ∷ []) jobs fault → IsOtherFault ns (ps ++ in_units j all) jobs fault
  unit_fault ns ps j jobs fault is =
      let front = done ++ unit ∷ [] in
      subst (λ (qs : List Piece). IsOtherFault ns qs jobs fault)
      (append_assoc ps (in_units j front) (in_units j after)
      ∙ ap (λ (qs : List Piece). ps ++ qs) (sym (in_both j front after) ∙ ap (in_units j) split_more))
      (fault_in_more ns (ps ++ in_units j front) (in_units j after) jobs fault
      (subst (λ (qs : List Piece). IsOtherFault ns qs jobs fault) (pieces_more ps j) is))

-- what is known of the namespace and the job
pub record Known (ns : Namespace) (job : Job) : Type 1 where
  pub ready : IsReady ns job
  pub inside : (unit : ℕ) → Contains (job_units ns job) unit → unit < units_of ns
  pub units : (op : Operation) → job_operation_of ns job ≡ Some op → job_units ns job ≡ units_met ns op
  pub met : (op : Operation) (unit : ℕ) → IsOnRange op.deed → op.first + op.blocks ≤ ns.nsze → Contains (units_met ns op) unit
      → 0 < (part_in ns op unit).blocks
  pub place : (unit : ℕ) → unit < units_of ns → IsPlaceOf ns unit (piece_in ns 0 ns.nsze unit).first (piece_in ns 0 ns.nsze unit).blocks

module _ (ns : Namespace) (job : Job) (known : Known ns job) (unit : ℕ) (has : Contains (job_units ns job) unit) (c : Command)
    (alone : job.body ≡ Single c) where
  on_its_range : (deed : Deed) → IsOnRange deed → carries_ranges c.op ≡ false → c.slba + (c.nlb + 1) ≤ ns.nsze
      → single_operation ns c.op c ≡ Some (on_range c deed) → HasLbasIn ns c unit
  on_its_range deed kind plain lies does =
      let op = on_range c deed in
      let is : job_operation_of ns job ≡ Some op = ap (operation_of_body ns) alone ∙ does in
      let of = subst (λ (units : List ℕ). Contains units unit) (known.units op is) has in
      record {
        inside = λ e. lies;
        some = subst (λ (b : Bool). 0 < (cond b (piece_in ns 0 ns.nsze unit) (piece_in ns c.slba (c.nlb + 1) unit)).blocks) (sym plain)
            (known.met op unit kind lies of);
      }

  by_op : (op : Op) → c.op ≡ op → IsReadySingle ns c → HasLbasIn ns c unit
  by_op Write is ready =
      on_its_range (writes c.payload) refl (ap carries_ranges is) (subst (λ (o : Op). LiesInNamespace ns o c) is ready.range)
      (ap (λ (o : Op). single_operation ns o c) is)
  by_op Read is ready =
      on_its_range reads refl (ap carries_ranges is) (subst (λ (o : Op). LiesInNamespace ns o c) is ready.range)
      (ap (λ (o : Op). single_operation ns o c) is)
  by_op WriteUncorrectable is ready =
      on_its_range uncorrectable refl (ap carries_ranges is) (subst (λ (o : Op). LiesInNamespace ns o c) is ready.range)
      (ap (λ (o : Op). single_operation ns o c) is)
  by_op Compare is ready =
      on_its_range (compares c.payload) refl (ap carries_ranges is) (subst (λ (o : Op). LiesInNamespace ns o c) is ready.range)
      (ap (λ (o : Op). single_operation ns o c) is)
  by_op WriteZeroes is ready =
      on_its_range zeroes refl (ap carries_ranges is) (subst (λ (o : Op). LiesInNamespace ns o c) is ready.range)
      (ap (λ (o : Op). single_operation ns o c) is)
  by_op (Dataset deallocate) is ready =
      let ranged : carries_ranges c.op ≡ true = ap carries_ranges is in
      record {
        inside = λ e. cc (sym ranged ∙ e);
        some = subst (λ (b : Bool). 0 < (cond b (piece_in ns 0 ns.nsze unit) (piece_in ns c.slba (c.nlb + 1) unit)).blocks) (sym ranged)
            (known.place unit (known.inside unit has)).some;
      }
  by_op (Other opcode) is ready =
      let served : false ≡ true = sym (ap is_in_profile is) ∙ ready.op in
      cc served

-- The job has its part in a unit that it meets.
pub part_there : (ns : Namespace) (job : Job) → Known ns job → (unit : ℕ) → Contains (job_units ns job) unit → HasBodyIn ns job.body unit
part_there ns job known unit has = by job.body refl
  where
    by : (b : Body) → job.body ≡ b → HasBodyIn ns b unit
    by (Single c) is = by_op ns job known unit has c is c.op refl (subst (λ (b : Body). IsReadyBody ns b) is known.ready)
    by (Pair c d) is = tt
