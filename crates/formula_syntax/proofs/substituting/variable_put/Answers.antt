use Rattle.std.proofs.Common.{◌≡◌, true, map, refl, subst}
use Rattle.dom_terms.specs.Sorts.{sort_of}
use Rattle.dom_terms.specs.Terms.{logic_var_of, term_of}
use Rattle.formula_syntax.specs.Formulas.{pair_of}
use Rattle.formula_syntax.specs.Renaming as own
use Rattle.formula_syntax.proofs.PutSorts.{has_place, put-place, place-sort, only-logic}
use Rattle.formula_syntax.proofs.substituting.variable_put.Goals as goal

pub unreachable-requires : goal.unreachable-requires
unreachable-requires c =
    let s = sort_of c.args.variable.now.sort in
    let scopes = c.args.walk.now.scopes.now in
    let place = put-place s c.requires.sort (own.before scopes) (own.after scopes)
    (map pair_of c.args.walk.now.pairs.now) (logic_var_of c.args.variable.now)
    (term_of c.in_ok-new.field-0) c.requires.fit refl c.in_ok-new.ensures in
    only-logic s c.in_ok-new.field-0 c.requires.sort place c.in_default.not-Logic

pub returns-clause-sort : goal.returns-clause-sort
returns-clause-sort c =
    let s = sort_of c.args.variable.now.sort in
    let scopes = c.args.walk.now.scopes.now in
    let place = put-place s c.requires.sort (own.before scopes) (own.after scopes)
    (map pair_of c.args.walk.now.pairs.now) (logic_var_of c.args.variable.now)
    (term_of c.in_ok-new.field-0) c.requires.fit refl c.in_ok-new.ensures in
    place-sort s (sort_of c.in-Logic.new.sort) c.in-Logic.new.name
    (subst (λ z. has_place s (term_of z) ≡ true) c.in-Logic.is place)
