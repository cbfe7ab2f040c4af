use Rattle.std.proofs.Common.{◌≡◌, ◌∙◌, ◌<◌, ◌∷◌, None, map, refl, sym, ap, subst}
use Rattle.model_shapes.specs.Sorts.{grove}
use Rattle.model_shapes.specs.Trees.{Trees}
use Rattle.model_shapes.specs.Shapes.{SameAt}
use Rattle.model_commands.specs.Theories.{procedures_of}
use Rattle.model_files.proofs.WellFormedTheories.{well-formed-bodies}
use Rattle.model_groves.specs.Picks.{next_pick}
use Rattle.model_machine.specs.Fitting.{FitsConfig}
use Rattle.model_machine.specs.Machine.{configuration, move}
use Rattle.dom_terms.specs.Stores.{store_of}
use Rattle.dom_terms.specs.Terms.{prog_var_of}
use Rattle.theory_syntax.specs.Theories.{theory_of}
use Rattle.dom_meaning.specs.declared.effects.Effect.{Effect}
use Rattle.dom_meaning.specs.Configs.{piece_of}
use Rattle.dom_meaning.specs.Effects.{Comes, if_quiet}
use Rattle.heap_runner.specs.Pieces.{first_seen, returns_seen}
use Rattle.heap_runner.specs.RunViews.{RunView, config_on}
use Rattle.heap_runner.specs.Runs.{Advanced}
use Rattle.heap_runner.specs.Turns.{limit_here}
use Rattle.heap_runner.proofs.AdvanceLaws.{counts_first, goes_on_here, was_faulty, went_on, went_fits}
use Rattle.heap_runner.proofs.advancing.HeapRun.advance.Goals as goal
use Rattle.heap_runner.proofs.advancing.HeapRun.advance.Goals.{In-Ok}

-- the run as it was
abbrev before : In-Ok → RunView
before c = record {
  pending = c.self.inside.stack.pieces;
  store = c.self.inside.store;
  results = map prog_var_of c.self.inside.results.now;
  steps = c.self.inside.steps;
}

-- no limit is passed
no_limit : (c : In-Ok)
    → limit_here (configuration (piece_of (first_seen c.in-Some.first)
    ∷ map piece_of c.in-Some.ensures.0) (store_of c.self.inside.store) c.args.heap.now.grove)
    ≡ None
no_limit c =
    c.in-Ok.ensures.limit (map piece_of c.in-Some.ensures.0)
    (counts_first (first_seen c.in-Some.first) c.in-Some.ensures.0 c.returns-returns.result
    (c.returns-returns.ensures ∙ ap returns_seen c.in-Some.ensures.1))

pub go_on-requires : goal.go_on-requires
go_on-requires c = record {
  goes_on = goes_on_here (procedures_of (theory_of c.args.theory.now))
      (piece_of (first_seen c.in-Some.first)) (store_of c.self.inside.store)
      (store_of c.piece_effect.new.store) c.args.heap.now.grove c.piece_effect.new.heap.grove
      c.in-Ok.effect c.in-Ok.ensures.comes c.in_default-effect.not-Fault;
  fits = c.in-Ok.ensures.store;
  steps = subst (λ (z : RunView). z.steps < 4294967295) (sym c.self.view_is) c.requires.steps;
}

pub returns-in-Fault-clause-advanced : goal.returns-in-Fault-clause-advanced
returns-in-Fault-clause-advanced c =
    let ps = procedures_of (theory_of c.args.theory.now) in
    let first = first_seen c.in-Some.first in
    let old = c.args.heap.now.grove in
    let new = c.piece_effect.new.heap.grove in
    let at = (goal.at.returns-in-Fault-clause-advanced c).In-Ok in
    let after = record (before at) { store = c.piece_effect.new.store } in
    subst (λ (z : RunView). Advanced ps z after old new c.faulted.result) c.self.view_is
    (was_faulty ps (before at) after old new first c.in-Some.ensures.0 c.in-Some.ensures.1
    c.args.heap.now c.piece_effect.new.heap refl refl c.piece_effect.new.store refl
    c.in-Fault.kind c.faulted.result
    (subst (Comes (λ (trees : Trees). SameAt grove trees new)
    (move ps (next_pick old) (piece_of first) (store_of c.self.inside.store) old) (piece_of first)
    (store_of c.piece_effect.new.store)) c.in-Fault.is c.in-Ok.ensures.comes)
    (no_limit at)
    (subst (λ (z : Effect). if_quiet z ((c.piece_effect.new.store ≡ c.self.inside.store)
    × (c.piece_effect.new.heap ≡ c.args.heap.now))) c.in-Fault.is c.in-Ok.ensures.kept)
    c.faulted.ensures)

pub returns-in_default-effect : goal.returns-in_default-effect
returns-in_default-effect c =
    let ps = procedures_of (theory_of c.args.theory.now) in
    let first = first_seen c.in-Some.first in
    let old = c.args.heap.now.grove in
    let new = c.piece_effect.new.heap.grove in
    let at = (goal.at.returns-in_default-effect c).In-Ok in
    let on = goes_on_here ps (piece_of first) (store_of c.self.inside.store)
    (store_of c.piece_effect.new.store) old new c.in-Ok.effect c.in-Ok.ensures.comes
    c.in_default-effect.not-Fault in
    record {
      advanced = subst (λ (z : RunView). Advanced ps z c.go_on.new.self old new c.go_on.result)
          c.self.view_is
          (went_on ps (before at) c.go_on.new.self old new first c.in-Some.ensures.0
          c.in-Some.ensures.1 c.args.heap.now c.piece_effect.new.heap refl refl c.in-Ok.effect
          c.piece_effect.new.store on c.in-Ok.ensures.comes c.in-Ok.ensures.kept c.go_on.result
          c.go_on.ensures (no_limit at) c.in-Ok.ensures.change);
      fits = went_fits ps (before at) c.go_on.new.self old new first c.in-Some.ensures.0
          c.in-Some.ensures.1 c.args.heap.now c.piece_effect.new.heap refl refl c.in-Ok.effect
          c.piece_effect.new.store on c.in-Ok.ensures.comes c.in-Ok.ensures.kept c.go_on.result
          c.go_on.ensures
          (well-formed-bodies (theory_of c.args.theory.now) c.requires.well_formed)
          (subst (λ (z : RunView). FitsConfig ps (config_on z old)) (sym c.self.view_is)
          c.requires.fits);
    }
