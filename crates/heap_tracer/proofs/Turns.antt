-- A run is followed turn by turn.
use Rattle.std.proofs.Common.{option_map, append-nil, ◌≡◌, ◌∙◌, ℕ, suc, ◌+◌, ◌<◌, ◌≤◌, List, [], ◌∷◌, ◌++◌, map, Option, Some, None, refl, sym, ap, subst, arith}
use Rattle.model_shapes.specs.Sorts.{shape, grove}
use Rattle.model_shapes.specs.Trees.{Trees}
use Rattle.model_shapes.specs.Shapes.{SameAt, Shaped}
use Rattle.model_shapes.specs.Values.{Value}
use Rattle.model_shapes.proofs.Shapes.{SameAt-sym}
use Rattle.model_terms.specs.Stores.{ProgVar, Store, ProperStore}
use Rattle.model_commands.specs.SortTests.{BodiesSorted}
use Rattle.model_commands.specs.Theories.{Procedures}
use Rattle.model_groves.specs.Picks.{next_pick}
use Rattle.model_limits.specs.Limits.{LimitKind, standard_limits}
use Rattle.model_machine.specs.Changes.{Change, change_of, listed_first, changes}
use Rattle.model_machine.specs.Fitting.{FitsConfig}
use Rattle.model_machine.specs.Machine.{Piece, FaultKind, Config, configuration, StepOut, next, done, at_fault, at_bad_pick, step}
use Rattle.model_machine.specs.Outcomes.{Outcome, outcome, ends, ends_at, values_in, has_fault, first_command}
use Rattle.dom_terms.specs.Limits.{limit_kind_of}
use Rattle.dom_terms.specs.Values as program
use Rattle.dom_terms.specs.Values.{value_seen}
use Rattle.dom_terms.specs.declared.limits.LimitKind as own
use Rattle.dom_terms.specs.declared.values.Value as values
use Rattle.theory_syntax.specs.Commands.{command_of}
use Rattle.theory_syntax.specs.declared.commands.Command as commands
use Rattle.dom_meaning.specs.Configs.{piece_of}
use Rattle.dom_meaning.specs.Faults.{fault_kind_of}
use Rattle.dom_meaning.specs.declared.faults.FaultKind as faults
use Rattle.heap_runner.specs.Answers.{Answers}
use Rattle.heap_runner.specs.Reached.{Reached}
use Rattle.heap_runner.specs.Steps.{SameConfig, Leads}
use Rattle.heap_runner.specs.Turns.{limit_here}
use Rattle.heap_runner.specs.RunViews.{RunView, config_on}
use Rattle.heap_runner.specs.Runs.{Advanced}
use Rattle.heap_runner.specs.declared.advancing.HeapStep.TheVariants as s
use Rattle.heap_runner.specs.declared.outcomes.HeapOutcome.{HeapOutcome}
use Rattle.heap_runner.specs.declared.outcomes.HeapOutcome.TheVariants as o
use Rattle.run_trace.specs.Changes as own_changes
use Rattle.run_trace.specs.declared.changes.Change as own_change
use Rattle.heap_runner.proofs.RunLaws.{reached_start, reached_next, reached_leaves, reached_spent, reached_nothing, reached_fault, reached_limit}
use Rattle.trace_laws.specs.Followed.{Followed}
use Rattle.trace_laws.proofs.Followed.{followed_start, followed_next, followed_told}
use Rattle.observer_lists.proofs.Heard.{told_all_first}
use Rattle.run_trace.specs.Listeners.{Listener, told_all}
use Rattle.heap_tracer.specs.Traces.{Traces, Hears, Follows}

-- where a step leads
led : (out : StepOut) (after : Config) → Leads out after
    → (mid : Config) × (out ≡ next mid) × SameConfig mid after
led (next mid) after leads = (mid, refl, leads)
led done after leads = absurd leads
led (at_fault kind) after leads = absurd leads
led at_bad_pick after leads = absurd leads

-- where a limit is passed something is pending
limited : (pending : List Piece) (store : Store) (roots : Trees) (kind : LimitKind)
    → limit_here (configuration pending store roots) ≡ Some kind → pending ≡ [] → ⊥
limited [] store roots kind e q = cc
limited (x ∷ k) store roots kind e q = cc

module _ (run : ℕ → Outcome) (told : ℕ → List Change) (ps : Procedures) (rs : List ProgVar)
    (steps : ℕ) (so_far : List Change) (here : Config)
    (f : Follows run told ps rs steps so_far here)
  where
    abbrev there : Config
    there = configuration here.pending here.store f.reached.roots

    back : SameAt grove here.grove f.reached.roots
    back = SameAt-sym grove f.reached.roots here.grove f.reached.same

    tells : told steps ≡ so_far
    tells = followed_told told ps steps so_far here f.followed

    -- a step is taken, and what it changes comes last
    pub follows_next : BodiesSorted ps → (after : Config) → limit_here here ≡ None
        → Leads (step ps here (next_pick here.grove)) after → (change : Option Change)
        → change ≡ change_of (suc steps) (next_pick here.grove) here
        → Follows run told ps rs (steps + 1) (so_far ++ listed_first change []) after
    follows_next bodies after limit leads change is =
        let l = led (step ps here (next_pick here.grove)) after leads in
        let followed = followed_next told ps steps so_far here f.followed bodies l.0 after l.1 l.2.0
        l.2.1 l.2.2 in
        record {
          reached = reached_next run ps rs steps here f.reached bodies after limit leads;
          followed = subst (λ c. Followed told ps (steps + 1) (so_far ++ listed_first c []) after)
              (sym is)
              (subst (λ n. Followed told ps n (so_far ++ listed_first
              (change_of (suc steps) (next_pick here.grove) here) []) after) one_more followed);
        }
      where
        one_more : suc steps ≡ steps + 1
        one_more = omega arith

    -- no memory
    pub follows_refusal : (fuel : ℕ) → steps ≤ fuel
        → Answers run fuel o.OutOfMemory here.grove
        × Traces run told fuel o.OutOfMemory here.grove so_far
    follows_refusal fuel le =
        let leaves = reached_leaves run ps rs steps here f.reached in
        ((steps, le, leaves), (steps, le, leaves, tells))

    -- the end
    pub follows_end : (fuel : ℕ) → steps ≤ fuel → here.pending ≡ []
        → (values : List values.Value) → map value_seen values ≡ values_in rs here.store
        → Answers run fuel (o.Ended steps values) here.grove
        × Traces run told fuel (o.Ended steps values) here.grove so_far
    follows_end fuel le empty values is = (
      (
        f.reached.roots,
        reached_nothing run ps rs steps here f.reached fuel le empty
            ∙ ap (λ vs. ends steps vs f.reached.roots) (sym is),
        back,
      ),
      (steps, le, refl, tells),
    )

    pub follows_fault : (fuel : ℕ) → steps < fuel → limit_here here ≡ None
        → (kind : faults.FaultKind) (command : commands.Command)
        → step ps here (next_pick here.grove) ≡ at_fault (fault_kind_of kind)
        → command_of command ≡ first_command here.pending
        → Answers run fuel (o.Fault kind steps command) here.grove
        × Traces run told fuel (o.Fault kind steps command) here.grove so_far
    follows_fault fuel lt limit kind command is first = (
      (
        reached_fault run ps rs steps here f.reached fuel (fault_kind_of kind) lt limit is
            ∙ ap (λ c. has_fault (fault_kind_of kind) steps c) (sym first),
        reached_leaves run ps rs steps here f.reached,
      ),
      (steps, omega (arith, lt), refl, tells),
    )

    pub follows_limit : (fuel : ℕ) → steps < fuel → (kind : own.LimitKind)
        → limit_here here ≡ Some (limit_kind_of kind)
        → Answers run fuel (o.Limit kind) here.grove
        × Traces run told fuel (o.Limit kind) here.grove so_far
    follows_limit fuel lt kind limit =
        let passed = λ (n : ℕ) (h : steps < n).
        reached_limit run ps rs steps here f.reached n (limit_kind_of kind) h limit in (
          (
            passed fuel lt,
            steps,
            lt,
            passed (suc steps) (omega arith),
            reached_leaves run ps rs steps here f.reached,
          ),
          (
            steps,
            omega (arith, lt),
            (
              there,
              reached_spent run ps rs steps here f.reached
                  (limited here.pending here.store here.grove (limit_kind_of kind) limit),
              passed (suc steps) (omega arith),
            ),
            tells,
          ),
        )

    pub follows_spent : (here.pending ≡ [] → ⊥)
        → Answers run steps (o.Spent steps) here.grove
        × Traces run told steps (o.Spent steps) here.grove so_far
    follows_spent some = (
      (there, reached_spent run ps rs steps here f.reached some, refl, back),
      (steps, omega arith, refl, tells),
    )

-- where a run begins, in any order of the roots
pub follows_start : (ps : Procedures) (rs : List ProgVar) (here : Config) (roots : Trees)
    → SameAt grove roots here.grove → FitsConfig ps here
    → Follows (λ within. outcome standard_limits ps rs within 0
    (configuration here.pending here.store roots))
    (λ n. changes ps n 0 (configuration here.pending here.store roots)) ps rs 0 [] here
follows_start ps rs here roots same fits = record {
  reached = reached_start ps rs here roots same fits.pieces fits.fine.proper fits.fine.whole;
  followed = followed_start ps here roots same fits.pieces fits.fine.proper fits.fine.whole;
}

-- what is told with one more change
pub mapped_last : (xs : List own_change.Change) (one : own_change.Change)
    → map own_changes.change_of xs ++ own_changes.change_of one ∷ []
    ≡ map own_changes.change_of (xs ++ one ∷ [])
mapped_last [] one = refl
mapped_last (x ∷ xs) one = ap (λ ys. own_changes.change_of x ∷ ys) (mapped_last xs one)

-- ONE TURN
module _ (run : ℕ → Outcome) (told : ℕ → List Change) (ps : Procedures) (steps : ℕ)
    (so_far : List Change) (before after : RunView) (old new : Trees)
    (taken : before.steps ≡ steps)
    (f : Follows run told ps before.results steps so_far (config_on before old)) where
  next_turn : BodiesSorted ps → (change : Option own_change.Change)
      → Advanced ps before after old new (s.Next change)
      → Follows run told ps before.results (steps + 1)
      (so_far ++ listed_first (option_map own_changes.change_of change) []) (config_on after new)
  next_turn bodies change a =
      follows_next run told ps before.results steps so_far (config_on before old) f bodies
      (config_on after new) a.0 a.1 (option_map own_changes.change_of change)
      (subst (λ n. option_map own_changes.change_of change
      ≡ change_of (suc n) (next_pick old) (config_on before old)) taken a.4)

  pub quiet_turn : BodiesSorted ps → (change : Option own_change.Change) → change ≡ None
      → Advanced ps before after old new (s.Next change)
      → Follows run told ps before.results (steps + 1) so_far (config_on after new)
  quiet_turn bodies change is a =
      subst (λ cs. Follows run told ps before.results (steps + 1) cs (config_on after new))
      (append-nil so_far)
      (next_turn bodies None (subst (λ z. Advanced ps before after old new (s.Next z)) is a))

  pub telling_turn : BodiesSorted ps → (change : Option own_change.Change) (one : own_change.Change)
      → change ≡ Some one → Advanced ps before after old new (s.Next change)
      → Follows run told ps before.results (steps + 1) (so_far ++ own_changes.change_of one ∷ [])
      (config_on after new)
  telling_turn bodies change one is a =
      next_turn bodies (Some one)
      (subst (λ z. Advanced ps before after old new (s.Next z)) is a)

  abbrev ComesTo : ℕ → HeapOutcome → Trees → Type 0
  ComesTo fuel came trees = Answers run fuel came trees × Traces run told fuel came trees so_far

  pub refused_turn : (fuel : ℕ) → steps ≤ fuel → new ≡ old → ComesTo fuel o.OutOfMemory new
  refused_turn fuel le stays =
      subst (ComesTo fuel o.OutOfMemory) (sym stays)
      (follows_refusal run told ps before.results steps so_far (config_on before old) f fuel le)

  pub last_turn : (fuel : ℕ) → steps ≤ fuel → (values : List values.Value)
      → Advanced ps before after old new (s.Done values) → ComesTo fuel (o.Ended steps values) new
  last_turn fuel le values a =
      subst (ComesTo fuel (o.Ended steps values)) (sym a.2.1)
      (follows_end run told ps before.results steps so_far (config_on before old) f fuel le
      (ap (map piece_of) a.0) values a.1)

  pub faulty_turn : (fuel : ℕ) → steps < fuel → (kind : faults.FaultKind)
      (command : commands.Command) → Advanced ps before after old new (s.Fault kind command)
      → ComesTo fuel (o.Fault kind steps command) new
  faulty_turn fuel lt kind command a =
      subst (ComesTo fuel (o.Fault kind steps command)) (sym a.3.1)
      (follows_fault run told ps before.results steps so_far (config_on before old) f fuel lt a.0
      kind command a.1 a.2)

  pub limited_turn : (fuel : ℕ) → steps < fuel → (kind : own.LimitKind)
      → Advanced ps before after old new (s.Limit kind) → ComesTo fuel (o.Limit kind) new
  limited_turn fuel lt kind a =
      subst (ComesTo fuel (o.Limit kind)) (sym a.1.1)
      (follows_limit run told ps before.results steps so_far (config_on before old) f fuel lt kind
      a.0)

-- observers that were told all changes heard them, however the run comes out
pub heard_whole : (outcome : HeapOutcome) (cs : List Change) (before after : List Listener)
    → after ≡ map (told_all cs) before → Hears outcome cs before after
heard_whole (o.Ended taken values) cs before after h = h
heard_whole (o.Fault kind taken command) cs before after h = h
heard_whole (o.Spent taken) cs before after h = h
heard_whole (o.Limit kind) cs before after h = h
heard_whole o.OutOfMemory cs before after h = told_all_first cs before after h
