use Rattle.std.proofs.Common.{◌≡◌, List, ℕ, [], IsTrue, false, codes, refl, sym, subst}
use Rattle.std.proofs.lemmas.Result.{IfOk-weaker}
use Rattle.model_shapes.specs.Trees.{none}
use Rattle.model_text.specs.Nesting.{lexemes_of}
use Rattle.model_documents.specs.Grammar.{SpellsGrove}
use Rattle.model_printing.proofs.Groves.{grove_reads_back}
use Rattle.grove_data.specs.Trees.{forest_of}
use Rattle.logic_text.proofs.MarkLemmas.{grove-marked}
use Rattle.logic_text.proofs.grove_writing.write_grove.Goals as goal

pub returns-clause-written : goal.returns-clause-written
returns-clause-written c =
    let some : c.args.grove.now ≡ [] → ⊥ =
    λ e. (let h : IsTrue false = c.if-is_empty.ensures.1 e in cc) in
    rw (c.in_ok-push_trees.ensures.written, c.new-text.ensures) (grove-marked c.args.grove.now some)

pub returns-clause-reads_back : goal.returns-clause-reads_back
returns-clause-reads_back c =
    subst (λ (z : List ℕ). SpellsGrove (forest_of c.args.grove.now) (lexemes_of z))
    (sym (returns-clause-written c))
    (grove_reads_back (forest_of c.args.grove.now) c.in_ok-push_trees.ensures.printable)

pub returns-then-is_empty-clause-reads_back : goal.returns-then-is_empty-clause-reads_back
returns-then-is_empty-clause-reads_back c =
    IfOk-weaker c.from_str.result (λ text. text ≡ codes "0g")
    (λ text. SpellsGrove (forest_of c.args.grove.now) (lexemes_of text))
    (λ text e. rw (e, c.if-is_empty.ensures.0 refl) (grove_reads_back none tt)) c.from_str.ensures
