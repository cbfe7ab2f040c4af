-- What a step of a run answers, by what comes of its first piece.
use Rattle.std.proofs.Common.{◌≡◌, ℕ, suc, List, [], ◌∷◌, ◌++◌, Option, None, Ok, Err, map, refl, sym, ap, ◌∙◌, subst}
use Rattle.std.specs.Prelude.{Result, IfOk}
use Rattle.std.specs.Borrow.{Bor}
use Rattle.std.specs.Option.{option_map}
use Rattle.model_shapes.specs.Sorts.{grove}
use Rattle.model_shapes.specs.Trees.{Trees}
use Rattle.model_shapes.specs.Shapes.{SameAt}
use Rattle.model_terms.specs.Stores.{Store}
use Rattle.model_commands.specs.Commands as model
use Rattle.model_commands.specs.Commands.{skip, block, assign, create_node, node_name, child_nodes, parent_node, list_item, append_child, remove_child, insert_before, if_else, while_do, local, call}
use Rattle.model_commands.specs.Theories.{Procedures}
use Rattle.model_commands.specs.SortTests.{BodiesSorted}
use Rattle.model_groves.specs.Picks.{Pick, next_pick}
use Rattle.model_machine.specs.Changes as changes
use Rattle.model_machine.specs.Machine.{Piece, run, Config, configuration, Move, move, step}
use Rattle.model_machine.specs.Fitting.{FitsConfig}
use Rattle.model_machine.specs.Outcomes.{returns_in, first_command, values_in}
use Rattle.dom_terms.specs.declared.store.Cell.{Cell}
use Rattle.dom_terms.specs.Stores.{store_of}
use Rattle.dom_terms.specs.Values.{value_seen}
use Rattle.dom_terms.specs.declared.memory.OutOfMemory.{OutOfMemory}
use Rattle.dom_terms.specs.declared.values.Value.{Value}
use Rattle.theory_syntax.specs.declared.commands.Command.{Command}
use Rattle.theory_syntax.specs.Commands.{command_of}
use Rattle.run_trace.specs.declared.changes.Change.{Change}
use Rattle.run_trace.specs.Changes.{change_of}
use Rattle.dom_meaning.specs.declared.configurations.Pending.{Pending}
use Rattle.dom_meaning.specs.declared.configurations.Pending.TheVariants as p
use Rattle.dom_meaning.specs.declared.effects.Effect.{Effect}
use Rattle.dom_meaning.specs.declared.effects.Effect.TheVariants as e
use Rattle.dom_meaning.specs.declared.faults.FaultKind.{FaultKind}
use Rattle.dom_meaning.specs.declared.faults.StepFault.{StepFault}
use Rattle.dom_meaning.specs.declared.faults.StepFault.TheVariants as f
use Rattle.dom_meaning.specs.Documents.{Kept}
use Rattle.dom_meaning.specs.Faults.{IsLimit}
use Rattle.node_heap.specs.HeapView.{HeapView}
use Rattle.dom_meaning.specs.Configs.{piece_of}
use Rattle.dom_meaning.specs.Effects.{Comes, pieces_put, store_put, if_quiet, change_in, Tells, TellsChange, Counted}
use Rattle.heap_runner.specs.Effects.{GoesOn, IsQuiet}
use Rattle.heap_runner.specs.Pieces.{returns_seen, first_seen}
use Rattle.heap_runner.specs.declared.pieces.First.{First}
use Rattle.heap_runner.specs.declared.pieces.First.TheVariants as first
use Rattle.heap_runner.specs.RunViews.{RunView, config_on}
use Rattle.heap_runner.specs.Runs.{Advanced}
use Rattle.heap_runner.specs.Steps.{Leads}
use Rattle.heap_runner.specs.Told.{IsCommand, FaultTold, WentOn, done_with, refused_with}
use Rattle.heap_runner.specs.Turns.{limit_here}
use Rattle.heap_runner.specs.declared.advancing.HeapStep.{HeapStep}
use Rattle.heap_runner.specs.declared.advancing.HeapStep.TheVariants as s
use Rattle.heap_runner.proofs.StackLaws.{as_command}
use Rattle.heap_runner.proofs.StepLaws.{it_leads_to, it_fits, it_faults, no_bad_pick, change_alone}

-- the returns after a piece are all that are pending
counts_command : (c : model.Command) (rest : List Piece) (n : ℕ)
    → n ≡ returns_in (run c ∷ rest) → Counted (run c) rest n
counts_command skip rest n is = tt
counts_command (block b) rest n is = tt
counts_command (assign x t) rest n is = tt
counts_command (create_node x t) rest n is = tt
counts_command (node_name x t) rest n is = tt
counts_command (child_nodes x t) rest n is = tt
counts_command (parent_node x t) rest n is = tt
counts_command (list_item x t u) rest n is = tt
counts_command (append_child t u) rest n is = tt
counts_command (remove_child t u) rest n is = tt
counts_command (insert_before t u v) rest n is = tt
counts_command (if_else c a b) rest n is = tt
counts_command (while_do c b) rest n is = tt
counts_command (local x b) rest n is = tt
counts_command (call xs name es) rest n is = sym is

pub counts_first : (first : Pending) (others : List Pending) (n : ℕ)
    → n ≡ returns_seen (first ∷ others) → Counted (piece_of first) (map piece_of others) n
counts_first (p.Run c) others n is = counts_command (command_of c) (map piece_of others) n is
counts_first (p.Restore x v) others n is = tt
counts_first (p.Return caller rs xs) others n is = tt

-- only a command faults
pub faults_of_command : (first : First) (leaves : Trees → Type 0) (ps : Procedures) (pick : Pick)
    (store left : Store) (g : Trees) (kind : FaultKind)
    → Comes leaves (move ps pick (piece_of (first_seen first)) store g)
    (piece_of (first_seen first)) left (e.Fault kind)
    → IsCommand first
faults_of_command (first.Command c) leaves ps pick store left g kind comes = tt
faults_of_command (first.Block b) leaves ps pick store left g kind comes =
    let bad = comes.1 ∙ ap (λ z. move ps pick z store g) (as_command b.now) in absurd cc
faults_of_command (first.Restore x v) leaves ps pick store left g kind comes =
    let bad = comes.1 in absurd cc
faults_of_command (first.Return caller rs xs) leaves ps pick store left g kind comes =
    let bad = comes.1 in absurd cc

-- so a fault is a command's
pub no_fault_of : (at : First) → ((c : Bor Command) → at ≡ first.Command c → ⊥) → IsCommand at → ⊥
no_fault_of (first.Command c) n h = n c refl
no_fault_of (first.Block b) n h = h
no_fault_of (first.Restore x v) n h = h
no_fault_of (first.Return caller rs xs) n h = h

-- a step with which the run goes on tells its change
tells_on : (change : ℕ → Option changes.Change) (effect : Effect) → GoesOn effect
    → Tells change effect → (taken : ℕ) → change taken ≡ change_in taken effect
tells_on change e.Nothing on tells = tells
tells_on change (e.Set x v) on tells = tells
tells_on change (e.Commands b) on tells = tells
tells_on change (e.Block b) on tells = tells
tells_on change (e.Again b) on tells = tells
tells_on change (e.Local x v b) on tells = tells
tells_on change (e.Call f xs callee) on tells = tells
tells_on change (e.Back caller) on tells = tells
tells_on change (e.Created n l) on tells = tells
tells_on change (e.Moved n a b d) on tells = tells
tells_on change (e.Removed n a) on tells = tells
tells_on change (e.Fault kind) on tells = absurd on
tells_on change e.BadPick on tells = absurd on

-- what holds where an effect changes nothing holds of a quiet one
quietly : (effect : Effect) (P : Type 0) → IsQuiet effect → if_quiet effect P → P
quietly e.Nothing P quiet p = p
quietly (e.Set x v) P quiet p = p
quietly (e.Commands b) P quiet p = p
quietly (e.Block b) P quiet p = p
quietly (e.Again b) P quiet p = p
quietly (e.Local x v b) P quiet p = p
quietly (e.Call f xs callee) P quiet p = p
quietly (e.Back caller) P quiet p = p
quietly (e.Created n l) P quiet p = absurd quiet
quietly (e.Moved n a b d) P quiet p = absurd quiet
quietly (e.Removed n a) P quiet p = absurd quiet
quietly (e.Fault kind) P quiet p = p
quietly e.BadPick P quiet p = p

-- a run goes on with what is no fault and no bad pick
goes_on : (effect : Effect) → ((kind : FaultKind) → effect ≡ e.Fault kind → ⊥)
    → (effect ≡ e.BadPick → ⊥) → GoesOn effect
goes_on e.Nothing no_fault no_pick = tt
goes_on (e.Set x v) no_fault no_pick = tt
goes_on (e.Commands b) no_fault no_pick = tt
goes_on (e.Block b) no_fault no_pick = tt
goes_on (e.Again b) no_fault no_pick = tt
goes_on (e.Local x v b) no_fault no_pick = tt
goes_on (e.Call f xs callee) no_fault no_pick = tt
goes_on (e.Back caller) no_fault no_pick = tt
goes_on (e.Created n l) no_fault no_pick = tt
goes_on (e.Moved n a b d) no_fault no_pick = tt
goes_on (e.Removed n a) no_fault no_pick = tt
goes_on (e.Fault kind) no_fault no_pick = absurd (no_fault kind refl)
goes_on e.BadPick no_fault no_pick = absurd (no_pick refl)

-- the next pick is never bad
pub goes_on_here : (ps : Procedures) (piece : Piece) (store left : Store) (old new : Trees)
    (effect : Effect)
    → Comes (λ trees. SameAt grove trees new) (move ps (next_pick old) piece store old) piece left
    effect
    → ((kind : FaultKind) → effect ≡ e.Fault kind → ⊥) → GoesOn effect
goes_on_here ps piece store left old new effect comes no_fault =
    goes_on effect no_fault (λ is.
    no_bad_pick ps piece [] store old left new
    (subst (Comes (λ trees. SameAt grove trees new) (move ps (next_pick old) piece store old) piece
    left) is comes))

-- what is told of a fault
told_of : (kind : FaultKind) (first : Pending) (rest : List Piece) (out : HeapStep)
    (A : HeapStep → Type 0) → FaultTold kind first out
    → ((command : Command) → command_of command ≡ first_command (piece_of first ∷ rest)
    → A (s.Fault kind command)) → A s.OutOfMemory → A out
told_of kind (p.Run c) rest (s.Fault told copy) A h fault memory =
    subst (λ k. A (s.Fault k copy)) (sym h.0) (fault copy h.1)
told_of kind (p.Run c) rest s.OutOfMemory A h fault memory = memory
told_of kind (p.Run c) rest (s.Next change) A h fault memory = absurd h
told_of kind (p.Run c) rest (s.Done values) A h fault memory = absurd h
told_of kind (p.Run c) rest (s.Limit limit) A h fault memory = absurd h
told_of kind (p.Restore x v) rest (s.Fault told copy) A h fault memory = absurd h
told_of kind (p.Restore x v) rest s.OutOfMemory A h fault memory = memory
told_of kind (p.Restore x v) rest (s.Next change) A h fault memory = absurd h
told_of kind (p.Restore x v) rest (s.Done values) A h fault memory = absurd h
told_of kind (p.Restore x v) rest (s.Limit limit) A h fault memory = absurd h
told_of kind (p.Return caller rs xs) rest (s.Fault told copy) A h fault memory = absurd h
told_of kind (p.Return caller rs xs) rest s.OutOfMemory A h fault memory = memory
told_of kind (p.Return caller rs xs) rest (s.Next change) A h fault memory = absurd h
told_of kind (p.Return caller rs xs) rest (s.Done values) A h fault memory = absurd h
told_of kind (p.Return caller rs xs) rest (s.Limit limit) A h fault memory = absurd h

-- the run is as before where its store is
as_before : (before after : RunView) (left : List Cell) → after ≡ record before { store = left }
    → left ≡ before.store → after ≡ before
as_before before after left is same =
    is ∙ ap (λ (z : List Cell). record before { store = z }) same

-- nothing was pending
pub finished : (ps : Procedures) (before after : RunView) (old new : Trees)
    (values : Result (List Value) OutOfMemory) → before.pending ≡ []
    → IfOk values (λ vs. map value_seen vs ≡ values_in before.results (store_of before.store))
    → after ≡ before → new ≡ old → Advanced ps before after old new (done_with values)
finished ps before after old new (Ok values) none are same stays = (none, are, (same, stays))
finished ps before after old new (Err refused) none are same stays = (same, stays)

module _ (ps : Procedures) (before after : RunView) (old new : Trees) (first : Pending)
    (others : List Pending) (pending : before.pending ≡ first ∷ others) where
  abbrev piece : Piece
  piece = piece_of first

  abbrev rest : List Piece
  rest = map piece_of others

  abbrev store : Store
  store = store_of before.store

  abbrev its_move : Move
  its_move = move ps (next_pick old) piece store old

  -- the configuration, by its first piece
  is_before : config_on before old ≡ configuration (piece ∷ rest) store old
  is_before = ap (λ z. configuration (map piece_of z) store old) pending

  module _ (effect : Effect) (left : List Cell) (on : GoesOn effect)
      (comes : Comes (λ trees. SameAt grove trees new) its_move piece (store_of left) effect)
      (put : map piece_of after.pending ≡ pieces_put effect piece (store_of left) ++ rest)
      (set : store_of after.store ≡ store_put effect (store_of left)) where
    -- the step was taken
    pub was_taken : (change : Option Change)
        → limit_here (configuration (piece ∷ rest) store old) ≡ None
        → after.steps ≡ suc before.steps → after.results ≡ before.results
        → TellsChange (next_pick old) piece store old effect
        → option_map change_of change ≡ change_in (suc before.steps) effect
        → Advanced ps before after old new (s.Next change)
    was_taken change limit steps results tells told = (
      ap limit_here is_before ∙ limit,
      subst (λ z. Leads (step ps z (next_pick old)) (config_on after new)) (sym is_before)
          (it_leads_to ps piece rest store old effect (store_of left) new comes on
          (config_on after new) put set refl),
      steps,
      results,
      told
          ∙ sym (tells_on (λ taken. changes.change_of taken (next_pick old)
          (configuration (piece ∷ []) store old)) effect on tells (suc before.steps))
          ∙ sym (change_alone (suc before.steps) (next_pick old) piece rest store old)
          ∙ sym (ap (changes.change_of (suc before.steps) (next_pick old)) is_before),
    )

    -- and the configuration after it fits
    pub still_fits : BodiesSorted ps → FitsConfig ps (config_on before old)
        → FitsConfig ps (config_on after new)
    still_fits bodies fits =
        it_fits ps piece rest store old effect (store_of left) new comes on (config_on after new)
        put set refl bodies (subst (FitsConfig ps) is_before fits)

  -- the command faulted
  pub was_fault : (kind : FaultKind) (left : List Cell) (command : Command)
      → Comes (λ trees. SameAt grove trees new) its_move piece (store_of left) (e.Fault kind)
      → limit_here (configuration (piece ∷ rest) store old) ≡ None
      → command_of command ≡ first_command (piece ∷ rest) → after ≡ before → new ≡ old
      → Advanced ps before after old new (s.Fault kind command)
  was_fault kind left command comes limit told same stays = (
    ap limit_here is_before ∙ limit,
    ap (λ z. step ps z (next_pick old)) is_before
        ∙ it_faults ps piece rest store old kind (store_of left) new comes,
    told ∙ sym (ap (λ (z : Config). first_command z.pending) is_before),
    (same, stays),
  )

  module _ (heap heap' : HeapView) (was : heap.grove ≡ old) (is : heap'.grove ≡ new) where
    -- the heap is as it was
    stays : heap' ≡ heap → new ≡ old
    stays same = sym is ∙ ap (λ (h : HeapView). h.grove) same ∙ was

    module _ (effect : Effect) (left : List Cell) (on : GoesOn effect)
        (comes : Comes (λ trees. SameAt grove trees new) its_move piece (store_of left) effect)
        (kept : if_quiet effect ((left ≡ before.store) × (heap' ≡ heap))) where
      -- what the run went on with is its step
      pub went_on : (out : HeapStep) → WentOn effect (record before { store = left }) after out
          → limit_here (configuration (piece ∷ rest) store old) ≡ None
          → TellsChange (next_pick old) piece store old effect
          → Advanced ps before after old new out
      went_on (s.Next change) w limit tells =
          was_taken effect left on comes (w.0 first others pending) w.1 change limit w.2 w.3 tells
          w.4
      went_on s.OutOfMemory w limit tells =
          let same = quietly effect ((left ≡ before.store) × (heap' ≡ heap)) w.1 kept in
          (as_before before after left w.0 same.0, stays same.1)
      went_on (s.Done values) w limit tells = absurd w
      went_on (s.Fault kind command) w limit tells = absurd w
      went_on (s.Limit kind) w limit tells = absurd w

      pub went_fits : (out : HeapStep) → WentOn effect (record before { store = left }) after out
          → BodiesSorted ps → FitsConfig ps (config_on before old)
          → FitsConfig ps (config_on after new)
      went_fits (s.Next change) w bodies fits =
          still_fits effect left on comes (w.0 first others pending) w.1 bodies fits
      went_fits s.OutOfMemory w bodies fits =
          let same = quietly effect ((left ≡ before.store) × (heap' ≡ heap)) w.1 kept in
          subst (FitsConfig ps)
          (λ i. config_on (sym (as_before before after left w.0 same.0) i) (sym (stays same.1) i))
          fits
      went_fits (s.Done values) w bodies fits = absurd w
      went_fits (s.Fault kind command) w bodies fits = absurd w
      went_fits (s.Limit kind) w bodies fits = absurd w

    module _ (left : List Cell) (after_is : after ≡ record before { store = left }) where
      -- the first piece faulted
      pub was_faulty : (kind : FaultKind) (out : HeapStep)
          → Comes (λ trees. SameAt grove trees new) its_move piece (store_of left) (e.Fault kind)
          → limit_here (configuration (piece ∷ rest) store old) ≡ None
          → (left ≡ before.store) × (heap' ≡ heap) → FaultTold kind first out
          → Advanced ps before after old new out
      was_faulty kind out comes limit same told =
          told_of kind first rest out (Advanced ps before after old new) told
          (λ command is. was_fault kind left command comes limit is
          (as_before before after left after_is same.0) (stays same.1))
          (as_before before after left after_is same.0, stays same.1)

      -- the step isn't taken
      pub was_refused : (fault : StepFault)
          → Kept if_quiet (λ (a b : HeapView). b.grove ≡ a.grove) (Err fault)
          (left ≡ before.store) heap heap'
          → IsLimit fault (limit_here (configuration (piece ∷ rest) store old))
          → Advanced ps before after old new (refused_with fault)
      was_refused (f.Limit kind) kept limit = (
        ap limit_here is_before ∙ limit,
        (as_before before after left after_is kept.0, stays kept.1),
      )
      was_refused f.OutOfMemory kept limit =
          (as_before before after left after_is kept.0, sym is ∙ kept.1 ∙ was)
