-- The limit that a search heeds: the one that it was given, or none where that allows all that it can take.
use Rattle.std.proofs.Common.{◌≡◌, ◌⊎◌, ◌+◌, ◌≤◌, ◌∙◌, ℕ, Bool, List, Option, Some, None, inl, inr, sym, subst, arith}
use Rattle.fancy_input.specs.Requests.{effective_start}
use Rattle.fancy_input.specs.declared.input.Request.{Request}
use Rattle.fancy_code.specs.declared.code.Code.{Code}
use Rattle.fancy_runner.specs.declared.notes.KeptTable.{KeptTable}
use Rattle.fancy_input.specs.declared.work.Work.{Work}
use Rattle.fancy_runner.specs.KeptTable.{steps_from, taken_again}
use Rattle.fancy_code.specs.Queries.{most_steps}
use Rattle.fancy_input.specs.Work.{steps_of, HasWorkFor, RunsWithin}
use Rattle.fancy_input.proofs.WorkLemmas.{runs_all}

-- a search without a kept table takes a step for each pair, and no more
fresh_steps : (kept : Option KeptTable) (code : Code) (request : Request) (table : List Bool) → kept ≡ None
    → steps_from kept code request (effective_start request) table + taken_again kept code (effective_start request) ≡ most_steps code request
fresh_steps None code request table is = omega arith
fresh_steps (Some k) code request table is = cc

module _ (limit heeded : Option ℕ) (before kept : Option KeptTable) (code : Code) (request : Request) (work : Work) (same : before ≡ kept)
    (is : (heeded ≡ limit) ⊎ ((heeded ≡ None) × ((before ≡ None) × HasWorkFor limit (most_steps code request) work))) where
  -- what runs within the limit that is heeded runs within the one that was given
  pub runs_heeded : (table : List Bool) (after : Work) → RunsWithin heeded work after
      → steps_of after ≤ steps_of work + (steps_from kept code request (effective_start request) table + taken_again kept code (effective_start request))
      → RunsWithin limit work after
  runs_heeded table after runs bounded =
      elim is [
        | inl e ↦ subst (λ (o : Option ℕ). RunsWithin o work after) e runs
        | inr free ↦ runs_all limit (most_steps code request) work after free.1.1 runs.units (omega (arith, bounded, fresh_steps kept code request table (sym same ∙ free.1.0)))
      ]
