-- What each row of the table is ready for, by evaluation: a walk over it knows what its conditions
-- and requirements and what is put ask for.
use Rattle.std.proofs.Common.{◌≡◌, refl, sym, ap, ◌∙◌, Bool, true, false, ◌&&◌, ◌||◌, not, cond, bytes_eq, List, [], ◌∷◌}
use Rattle.model_shapes.specs.Values.{Name}
use Rattle.model_shapes.proofs.Truth.{both_true}
use Rattle.rule_table.specs.Entries.{Entry}
use Rattle.rule_table.specs.Table.{entailments}
use Rattle.rule_patterns.specs.Letter.{FormulaLetter, P', Q', R', A', B', K', H', E'}
use Rattle.rule_patterns.specs.Patterns.{ConditionPattern, not_free_p, pure_p, RequirementPattern, of_sort_p, x_of_sort_p, LinePattern}
use Rattle.rule_patterns.specs.Ways.{Way, matched, computed, ways, way_in, way_of}
use Rattle.letter_bindings.specs.Lines.{line_simple}
use Rattle.letter_bindings.proofs.KeptBodies.{each_binds_none}
use Rattle.letter_bindings.proofs.Learnt.{Thing, formula_thing, below_thing, term_thing, x_sort_thing, put_thing, in_terms, in_judgement, in_judgements}

-- it stands in the arguments or the conclusion
abbrev pub in_conclusion : Thing → LinePattern → Bool
in_conclusion t p = in_terms t p.arguments || in_judgement t p.conclusion

abbrev pub at_most_one : List ConditionPattern → Bool
at_most_one [] = true
at_most_one (c ∷ []) = true
at_most_one (c ∷ d ∷ cs) = false

abbrev pub condition_ready : LinePattern → ConditionPattern → Bool
condition_ready p (not_free_p a) = in_conclusion (formula_thing a) p
condition_ready p (pure_p a) = in_conclusion (formula_thing a) p

abbrev pub conditions_ready : LinePattern → List ConditionPattern → Bool
conditions_ready p [] = true
conditions_ready p (c ∷ cs) = condition_ready p c && conditions_ready p cs

abbrev pub requirement_ready : LinePattern → RequirementPattern → Bool
requirement_ready p (of_sort_p e) = in_conclusion (term_thing e) p && in_conclusion x_sort_thing p
requirement_ready p x_of_sort_p = in_conclusion x_sort_thing p

abbrev pub requirements_ready : LinePattern → List RequirementPattern → Bool
requirements_ready p [] = true
requirements_ready p (r ∷ rs) = requirement_ready p r && requirements_ready p rs

-- nothing is put, or P is known below a binder and E is an argument
abbrev pub put_ready : LinePattern → Bool
put_ready p =
    not (in_conclusion put_thing p || in_judgements put_thing p.premises)
    || (in_conclusion (term_thing E') p && in_conclusion (below_thing P') p)

-- where something stands below a binder, the sort of $x is known
abbrev pub below_ready : LinePattern → FormulaLetter → Bool
below_ready p a = not (in_conclusion (below_thing a) p) || in_conclusion x_sort_thing p

abbrev pub belows_ready : LinePattern → Bool
belows_ready p =
    below_ready p P' && (below_ready p Q' && (below_ready p R' && (below_ready p A' &&
    (below_ready p B' && (below_ready p K' && below_ready p H')))))

abbrev pub row_ready : LinePattern → Bool
row_ready p =
    (line_simple p && (at_most_one p.conditions && each_binds_none p.premises))
    && (conditions_ready p p.conditions
    && (requirements_ready p p.requirements && (put_ready p && belows_ready p)))

abbrev pub all_ready : List LinePattern → Bool
all_ready [] = true
all_ready (p ∷ ps) = row_ready p && all_ready ps

abbrev pub way_ready : Way → Bool
way_ready (matched ps) = all_ready ps
way_ready computed = true

abbrev pub ways_ready : List Way → Bool
ways_ready [] = true
ways_ready (w ∷ ws) = way_ready w && ways_ready ws

-- EVALUATED, ROW BY ROW
each_way_ready : ways_ready ways ≡ true
each_way_ready = refl

-- OF THE RULE OF A NAME
named_ready : (entries : List Entry) (ws : List Way) → ways_ready ws ≡ true → (name : Name)
    → way_ready (way_in entries ws name) ≡ true
named_ready [] ws e name = refl
named_ready (entry ∷ entries) [] e name = refl
named_ready (entry ∷ entries) (way ∷ ws) e name =
    let b : (way_ready way ≡ true) × (ways_ready ws ≡ true) = both_true _ _ e in
    by_test (bytes_eq name entry.name) b.0 (named_ready entries ws b.1 name)
  where
    by_test : (b : Bool) → way_ready way ≡ true → way_ready (way_in entries ws name) ≡ true
        → way_ready (cond b way (way_in entries ws name)) ≡ true
    by_test true f r = f
    by_test false f r = r

pub ready-of : (name : Name) (ps : List LinePattern) → way_of name ≡ matched ps
    → all_ready ps ≡ true
ready-of name ps e = sym (ap way_ready e) ∙ named_ready entailments ways each_way_ready name

-- the parts
pub record Ready (p : LinePattern) : Type 0 where
  pub simple : line_simple p ≡ true
  pub one : at_most_one p.conditions ≡ true
  pub unbound : each_binds_none p.premises ≡ true
  pub conditions : conditions_ready p p.conditions ≡ true
  pub requirements : requirements_ready p p.requirements ≡ true
  pub put : put_ready p ≡ true
  pub belows : belows_ready p ≡ true

pub ready-parts : (p : LinePattern) → row_ready p ≡ true → Ready p
ready-parts p e =
    let a : ((line_simple p && (at_most_one p.conditions && each_binds_none p.premises)) ≡ true)
    × ((conditions_ready p p.conditions
    && (requirements_ready p p.requirements && (put_ready p && belows_ready p))) ≡ true) =
    both_true _ _ e in
    let b : (line_simple p ≡ true)
    × ((at_most_one p.conditions && each_binds_none p.premises) ≡ true) = both_true _ _ a.0 in
    let c : (at_most_one p.conditions ≡ true) × (each_binds_none p.premises ≡ true) =
    both_true _ _ b.1 in
    let d : (conditions_ready p p.conditions ≡ true)
    × ((requirements_ready p p.requirements && (put_ready p && belows_ready p)) ≡ true) =
    both_true _ _ a.1 in
    let f : (requirements_ready p p.requirements ≡ true)
    × ((put_ready p && belows_ready p) ≡ true) = both_true _ _ d.1 in
    let g : (put_ready p ≡ true) × (belows_ready p ≡ true) = both_true _ _ f.1 in
    record {
      simple = b.0;
      one = c.0;
      unbound = c.1;
      conditions = d.0;
      requirements = f.0;
      put = g.0;
      belows = g.1;
    }
