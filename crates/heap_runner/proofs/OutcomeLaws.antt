-- How a run comes out, by what its next step answers.
use Rattle.std.proofs.Common.{◌≡◌, ℕ, ◌+◌, ◌<◌, List, [], ◌∷◌, Option, map, refl, sym, ap, ◌∙◌, subst, arith}
use Rattle.model_shapes.specs.Sorts.{grove}
use Rattle.model_shapes.specs.Trees.{Trees}
use Rattle.model_shapes.specs.Shapes.{SameAt}
use Rattle.model_shapes.proofs.Shapes.{SameAt-sym}
use Rattle.model_terms.specs.Stores.{ProgVar}
use Rattle.model_commands.specs.Theories.{Procedures}
use Rattle.model_commands.specs.SortTests.{BodiesSorted}
use Rattle.model_machine.specs.Machine.{Config}
use Rattle.model_machine.specs.Outcomes.{Outcome, ends, has_fault, values_in}
use Rattle.dom_terms.specs.declared.limits.LimitKind as limits
use Rattle.dom_terms.specs.declared.values.Value.{Value}
use Rattle.dom_terms.specs.Values.{value_seen}
use Rattle.theory_syntax.specs.declared.commands.Command.{Command}
use Rattle.run_trace.specs.declared.changes.Change.{Change}
use Rattle.dom_meaning.specs.declared.configurations.Pending.{Pending}
use Rattle.dom_meaning.specs.declared.faults.FaultKind.{FaultKind}
use Rattle.dom_meaning.specs.Configs.{piece_of}
use Rattle.dom_meaning.specs.Faults.{fault_kind_of}
use Rattle.heap_runner.specs.Answers.{Answers, Leaves}
use Rattle.heap_runner.specs.Reached.{Reached}
use Rattle.heap_runner.specs.RunViews.{RunView, config_on}
use Rattle.heap_runner.specs.Runs.{Advanced}
use Rattle.heap_runner.specs.declared.advancing.HeapStep.TheVariants as s
use Rattle.heap_runner.specs.declared.outcomes.HeapOutcome.TheVariants as o
use Rattle.heap_runner.proofs.RunLaws.{reached_next, reached_nothing, reached_leaves, reached_fault, reached_refusal, reached_want}

module _ (runs : ℕ → Outcome) (ps : Procedures) (rs : List ProgVar) (steps : ℕ)
    (before after : RunView) (old new : Trees)
    (r : Reached runs ps rs steps (config_on before old)) where
  abbrev here : Config
  here = config_on before old

  -- the step was taken
  pub came_further : BodiesSorted ps → (change : Option Change)
      → Advanced ps before after old new (s.Next change)
      → Reached runs ps rs (steps + 1) (config_on after new)
  came_further bodies change a =
      reached_next runs ps rs steps here r bodies (config_on after new) a.0 a.1

  module _ (fuel : ℕ) (le : steps < fuel) where
    -- nothing was pending
    pub came_to_end : before.results ≡ rs → (values : List Value)
        → Advanced ps before after old new (s.Done values)
        → Answers runs fuel (o.Ended steps values) new
    came_to_end same values a =
        let told : values_in rs here.store ≡ map value_seen values =
        ap (λ z. values_in z here.store) (sym same) ∙ sym a.1 in (
          r.roots,
          reached_nothing runs ps rs steps here r fuel (omega arith) (ap (map piece_of) a.0)
              ∙ (λ i. ends steps (told i) r.roots),
          subst (λ z. SameAt grove z r.roots) (sym a.2.1) (SameAt-sym grove r.roots old r.same),
        )

    -- a command faulted
    pub came_to_fault : (kind : FaultKind) (command : Command)
        → Advanced ps before after old new (s.Fault kind command)
        → Answers runs fuel (o.Fault kind steps command) new
    came_to_fault kind command a = (
      reached_fault runs ps rs steps here r fuel (fault_kind_of kind) le a.0 a.1
          ∙ ap (has_fault (fault_kind_of kind) steps) (sym a.2),
      subst (Leaves (runs steps)) (sym a.3.1) (reached_leaves runs ps rs steps here r),
    )

    -- a limit would be passed
    pub came_to_limit : (kind : limits.LimitKind)
        → Advanced ps before after old new (s.Limit kind)
        → Answers runs fuel (o.Limit kind) new
    came_to_limit kind a =
        reached_refusal runs ps rs steps here r kind fuel new le a.0 a.1.1

    -- memory was refused
    pub came_to_want : Advanced ps before after old new s.OutOfMemory
        → Answers runs fuel o.OutOfMemory new
    came_to_want a = reached_want runs ps rs steps here r fuel new (omega arith) a.1

-- something is pending
pub some_pending : (pending : List Pending) → (pending ≡ [] → ⊥) → map piece_of pending ≡ [] → ⊥
some_pending [] n e = n refl
some_pending (x ∷ pending) n e = cc
