-- Each rule of entailment has a verdict on each written step.
use Rattle.std.proofs.Common.{◌≡◌, refl, subst, Bool, true, false, cond, bytes_eq, List, [], ◌∷◌}
use Rattle.model_shapes.specs.Values.{Name}
use Rattle.rule_table.specs.Entries.{Row, Entry}
use Rattle.rule_table.specs.Table.{entailments}
use Rattle.rule_table.specs.Verdicts.{Written, Verdict, IsVerdict, readings_in}
use Rattle.rule_table.proofs.LinearVerdicts.{linear_verdict}
use Rattle.rule_table.proofs.EquationVerdicts.{subst_verdict, distinct_verdict, concat_verdict}
use Rattle.rule_patterns.specs.Ways.{Way, matched, computed, ways, way_in, way_of}
use Rattle.letter_bindings.proofs.StepVerdicts.{has-verdict}

module _ (w : Written) where
  abbrev HasVerdict : List Row → Type 0
  HasVerdict rows = (v : Verdict) × IsVerdict rows w v

  -- THE RULES THAT COMPUTE
  abbrev EachComputed : List Way → List Entry → Type 0
  EachComputed [] entries = Unit
  EachComputed (way ∷ ws) [] = Unit
  EachComputed (matched ps ∷ ws) (entry ∷ entries) = EachComputed ws entries
  EachComputed (computed ∷ ws) (entry ∷ entries) =
      HasVerdict entry.readings × EachComputed ws entries

  each_computed : EachComputed ways entailments
  each_computed = (
    subst_verdict w.arguments w.premises w.conclusion,
    (
      distinct_verdict w.arguments w.premises w.conclusion,
      (
        linear_verdict w.arguments w.premises w.conclusion,
        (concat_verdict w.arguments w.premises w.conclusion, tt),
      ),
    ),
  )

  abbrev WhereComputed : Way → List Row → Type 0
  WhereComputed (matched ps) rows = Unit
  WhereComputed computed rows = HasVerdict rows

  computed-named : (entries : List Entry) (ws : List Way) → EachComputed ws entries
      → (name : Name) → WhereComputed (way_in entries ws name) (readings_in entries name)
  computed-named [] ws h name = tt
  computed-named (entry ∷ entries) [] h name = tt
  computed-named (entry ∷ entries) (matched ps ∷ ws) h name =
      by_test (bytes_eq name entry.name) (computed-named entries ws h name)
    where
      by_test : (b : Bool) → WhereComputed (way_in entries ws name) (readings_in entries name)
          → WhereComputed (cond b (matched ps) (way_in entries ws name))
          (cond b entry.readings (readings_in entries name))
      by_test true r = tt
      by_test false r = r
  computed-named (entry ∷ entries) (computed ∷ ws) h name =
      by_test (bytes_eq name entry.name) (computed-named entries ws h.1 name)
    where
      by_test : (b : Bool) → WhereComputed (way_in entries ws name) (readings_in entries name)
          → WhereComputed (cond b computed (way_in entries ws name))
          (cond b entry.readings (readings_in entries name))
      by_test true r = h.0
      by_test false r = r

  pub computed-verdict : (name : Name) → way_of name ≡ computed
      → HasVerdict (readings_in entailments name)
  computed-verdict name e =
      subst (λ way. WhereComputed way (readings_in entailments name)) e
      (computed-named entailments ways each_computed name)

  -- EACH RULE
  pub verdict-of-each : (name : Name) → HasVerdict (readings_in entailments name)
  verdict-of-each name = by_way (way_of name) refl
    where
      by_way : (way : Way) → way_of name ≡ way → HasVerdict (readings_in entailments name)
      by_way (matched ps) e = has-verdict name ps e w
      by_way computed e = computed-verdict name e
