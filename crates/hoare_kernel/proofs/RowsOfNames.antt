-- The rows of a name: of a rule of entailment those of the table's first part, each of which
-- concludes an entailment, and of another name those of the rest, each of which concludes a triple.
use Rattle.std.proofs.Common.{◌≡◌, ◌∙◌, refl, sym, ap, subst, ⊎_elim, Bool, true, false, not, ◌&&◌, ◌||◌, cond, List, [], ◌∷◌, ◌++◌, map, bytes_eq, ℕ}
use Rattle.std.specs.List.{list_any}
use Rattle.std.proofs.lemmas.Bool.{and_cases}
use Rattle.std.proofs.lemmas.Map.Views.{any-filter_same}
use Rattle.std.proofs.lemmas.Slice.Eq.{bytes_eq-Decides}
use Rattle.model_shapes.specs.Values.{Name}
use Rattle.model_shapes.proofs.Truth.{both_true, false≢true}
use Rattle.model_terms.specs.Terms.{Term}
use Rattle.model_commands.specs.Theories.{Judgement, by_rule, Step, Procedures}
use Rattle.model_files.specs.RuleNames.{entailment_rule_names, triple_rule_names}
use Rattle.rule_table.specs.Letters.{Letters}
use Rattle.rule_table.specs.Accepted.{written_at, VerdictBy}
use Rattle.rule_table.specs.Entries.{Row, Entry}
use Rattle.rule_table.specs.Table.{table, entailments, triples}
use Rattle.rule_table.specs.Verdicts.{Written, Concludes, SomeLine, Verdict, instance_verdict, shape_verdict, premises_verdict, side_verdict, IsVerdict, readings_in}
use Rattle.rule_table.proofs.SomeLetters.{is_entailment}

-- THE PARTS OF THE TABLE
-- a name that the first entries have
front : (name : Name) (xs ys : List Entry)
    → list_any (bytes_eq name) (map (λ entry. entry.name) xs) ≡ true
    → readings_in (xs ++ ys) name ≡ readings_in xs name
front name [] ys e = false≢true e
front name (x ∷ xs) ys e = by_test (bytes_eq name x.name) e (front name xs ys)
  where
    by_test : (b : Bool)
        → (b || list_any (bytes_eq name) (map (λ entry. entry.name) xs)) ≡ true
        → (list_any (bytes_eq name) (map (λ entry. entry.name) xs) ≡ true
        → readings_in (xs ++ ys) name ≡ readings_in xs name)
        → cond b x.readings (readings_in (xs ++ ys) name)
        ≡ cond b x.readings (readings_in xs name)
    by_test true e f = refl
    by_test false e f = f e

-- and one that they don't have
behind : (name : Name) (xs ys : List Entry)
    → list_any (bytes_eq name) (map (λ entry. entry.name) xs) ≡ false
    → readings_in (xs ++ ys) name ≡ readings_in ys name
behind name [] ys e = refl
behind name (x ∷ xs) ys e = by_test (bytes_eq name x.name) e (behind name xs ys)
  where
    by_test : (b : Bool)
        → (b || list_any (bytes_eq name) (map (λ entry. entry.name) xs)) ≡ false
        → (list_any (bytes_eq name) (map (λ entry. entry.name) xs) ≡ false
        → readings_in (xs ++ ys) name ≡ readings_in ys name)
        → cond b x.readings (readings_in (xs ++ ys) name) ≡ readings_in ys name
    by_test true e f = false≢true (sym e)
    by_test false e f = f e

pub of-entailment : (ps : Procedures) (name : Name)
    → list_any (bytes_eq name) entailment_rule_names ≡ true
    → readings_in (table ps) name ≡ readings_in entailments name
of-entailment ps name e = front name entailments (triples ps) e

pub of-triples : (ps : Procedures) (name : Name)
    → list_any (bytes_eq name) entailment_rule_names ≡ false
    → readings_in (table ps) name ≡ readings_in (triples ps) name
of-triples ps name e = behind name entailments (triples ps) e

-- WHAT THE ROWS CONCLUDE
module _ (test : Judgement → Bool) where
  -- the conclusion of each row passes the test, of each entry
  abbrev all_pass : Letters → List Row → Bool
  all_pass l [] = true
  all_pass l (row ∷ rows) = test (row l).conclusion && all_pass l rows

  abbrev each_passes : Letters → List Entry → Bool
  each_passes l [] = true
  each_passes l (entry ∷ entries) = all_pass l entry.readings && each_passes l entries

  rows-pass : (name : Name) (entries : List Entry)
      → ((l : Letters) → each_passes l entries ≡ true)
      → (l : Letters) → all_pass l (readings_in entries name) ≡ true
  rows-pass name [] f l = refl
  rows-pass name (entry ∷ entries) f l = by_test (bytes_eq name entry.name)
      (rows-pass name entries
      (λ m. (both_true (all_pass m entry.readings) (each_passes m entries) (f m)).1) l)
    where
      by_test : (b : Bool) → all_pass l (readings_in entries name) ≡ true
          → all_pass l (cond b entry.readings (readings_in entries name)) ≡ true
      by_test true h = (both_true (all_pass l entry.readings) (each_passes l entries) (f l)).0
      by_test false h = h

  -- so a conclusion that doesn't is of none
  misshapen : (rows : List Row) (w : Written) → ((l : Letters) → all_pass l rows ≡ true)
      → test w.conclusion ≡ false → SomeLine rows (Concludes w) → ⊥
  misshapen [] w f n m = absurd m
  misshapen (row ∷ rows) w f n m = ⊎_elim
      (λ x. false≢true (sym n ∙ ap test (sym x.1.2)
      ∙ (both_true (test (row x.0).conclusion) (all_pass x.0 rows) (f x.0)).0))
      (λ y. misshapen rows w
      (λ l. (both_true (test (row l).conclusion) (all_pass l rows) (f l)).1) n y) m

abbrev is_triple : Judgement → Bool
is_triple j = not (is_entailment j)

-- a triple by a rule of entailment
pub triple-misshapen : (ps : Procedures) (name : Name) (w : Written)
    → list_any (bytes_eq name) entailment_rule_names ≡ true
    → is_entailment w.conclusion ≡ false
    → IsVerdict (readings_in (table ps) name) w shape_verdict
triple-misshapen ps name w e n =
    subst (λ rows. IsVerdict rows w shape_verdict) (sym (of-entailment ps name e))
    (misshapen is_entailment (readings_in entailments name) w
    (rows-pass is_entailment name entailments (λ l. refl)) n)

-- an entailment by another rule
pub entailment-misshapen : (ps : Procedures) (name : Name) (w : Written)
    → list_any (bytes_eq name) entailment_rule_names ≡ false
    → is_triple w.conclusion ≡ false
    → IsVerdict (readings_in (table ps) name) w shape_verdict
entailment-misshapen ps name w e n =
    subst (λ rows. IsVerdict rows w shape_verdict) (sym (of-triples ps name e))
    (misshapen is_triple (readings_in (triples ps) name) w
    (rows-pass is_triple name (triples ps) (λ l. refl)) n)

-- WHERE THE ROWS ARE KNOWN
-- an entailment by a rule of entailment
pub entailment-by : (ps : Procedures) (name rule_name : Name) (w : Written) (v : Verdict)
    → list_any (bytes_eq name) entailment_rule_names ≡ true → name ≡ rule_name
    → IsVerdict (readings_in entailments rule_name) w v
    → IsVerdict (readings_in (table ps) name) w v
entailment-by ps name rule_name w v e q h =
    subst (λ rows. IsVerdict rows w v) (sym (of-entailment ps name e))
    (subst (λ z. IsVerdict (readings_in entailments z) w v) (sym q) h)

-- no rule of entailment has rows among those for triples
apart : (ps : Procedures) (name : Name) → list_any (bytes_eq name) entailment_rule_names ≡ true
    → readings_in (triples ps) name ≡ []
apart ps name e = behind name (triples ps) [] no
  where
    other : Name → Bool
    other n = list_any (bytes_eq n) triple_rule_names

    no : other name ≡ false
    no = ⊎_elim (λ f. f) (λ f. false≢true (sym f ∙ e))
        (and_cases (other name) (list_any (bytes_eq name) entailment_rule_names)
        (sym (any-filter_same (bytes_eq name) other (other name)
        (λ n t. ap other (sym ((bytes_eq-Decides name n).0 t))) entailment_rule_names)))

-- a triple by any name: where there are no rows, only the shape may be refused
pub triple-by : (ps : Procedures) (name : Name) (w : Written) (v : Verdict)
    → is_entailment w.conclusion ≡ false
    → IsVerdict (readings_in (triples ps) name) w v
    → IsVerdict (readings_in (table ps) name) w v
triple-by ps name w v n = by_test (list_any (bytes_eq name) entailment_rule_names) refl
  where
    without_rows : (v : Verdict) → list_any (bytes_eq name) entailment_rule_names ≡ true
        → IsVerdict [] w v → IsVerdict (readings_in (table ps) name) w v
    without_rows instance_verdict e h = absurd h
    without_rows shape_verdict e h = triple-misshapen ps name w e n
    without_rows premises_verdict e h = absurd h.0
    without_rows (side_verdict side) e h = absurd h.1

    by_test : (b : Bool) → list_any (bytes_eq name) entailment_rule_names ≡ b
        → IsVerdict (readings_in (triples ps) name) w v
        → IsVerdict (readings_in (table ps) name) w v
    by_test true e h =
        without_rows v e (subst (λ rows. IsVerdict rows w v) (apart ps name e) h)
    by_test false e h = subst (λ rows. IsVerdict rows w v) (sym (of-triples ps name e)) h

-- a verdict on what is written, said of the reason
pub verdict-as : (ps : Procedures) (name name' : Name) (ns ns' : List ℕ) (es es' : List Term)
    (earlier : List Step) (j j' : Judgement) (v : Verdict) → name ≡ name' → ns ≡ ns' → es ≡ es'
    → j ≡ j' → IsVerdict (readings_in (table ps) name) (written_at earlier ns es j) v
    → VerdictBy ps (by_rule name' ns' es') earlier j' v
verdict-as ps name name' ns ns' es es' earlier j j' v e f g i h =
    subst (λ z. VerdictBy ps (by_rule z ns' es') earlier j' v) e
    (subst (λ z. VerdictBy ps (by_rule name z es') earlier j' v) f
    (subst (λ z. VerdictBy ps (by_rule name ns z) earlier j' v) g
    (subst (λ z. VerdictBy ps (by_rule name ns es) earlier z v) i h)))
