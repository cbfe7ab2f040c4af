-- The axiom create holds in every context.
use Rattle.std.proofs.Common.{◌≡◌, ℕ, zero, [], Bool, true, false, cond, ◌&&◌, not, refl, sym, ap, ◌∙◌, subst}
use Rattle.model_shapes.specs.Shapes.{Shaped, SameAt}
use Rattle.model_shapes.specs.Sorts.{str_sort, list_sort, value, shape, tree, forest, grove}
use Rattle.model_shapes.specs.Things.{Thing, val}
use Rattle.model_shapes.specs.Trees.{list_uses, Trees, none, node, beside, fill, node_uses}
use Rattle.model_shapes.specs.Values.{Value, FitsValue, null, nolist, int, boolean, node_number, str, list_number}
use Rattle.model_shapes.proofs.Shapes.{right-WellFormed}
use Rattle.model_shapes.proofs.Truth.{both_true}
use Rattle.model_formulas.specs.Formulas.{existential, Formula, node_formula, empty, one_root, conjunction, equality}
use Rattle.model_formulas.specs.Satisfaction.{choosing, Environment, with_store, meaning_of}
use Rattle.model_terms.specs.Terms.{variable, raised, InTerm, Term}
use Rattle.model_terms.specs.Variables.{bound}
use Rattle.model_formulas.proofs.Substitutes.{raised-meaning}
use Rattle.model_commands.specs.Commands.{create_node}
use Rattle.model_groves.specs.Groves.{positive}
use Rattle.model_machine.specs.ClassicalTriples.{Stands, TripleFor}
use Rattle.model_groves.specs.Picks.{is_free, Pick}
use Rattle.model_machine.specs.Machine.{run, becomes, bad_pick}
use Rattle.model_commands.specs.Sorting.{Sorted}
use Rattle.model_terms.specs.Stores.{text_in, ProgVar, named, as_var, set, value_in, Store, lookup, value_of}
use Rattle.model_commands.specs.Theories.{Procedures}
use Rattle.model_machine.proofs.Fine.{created-shaped, is-positive}
use Rattle.model_terms.proofs.StoreLaws.{value-fits, set-same}
use Rattle.model_commands.proofs.StoreLaws.{meaning-value, proper-store}
use Rattle.triple_laws.proofs.Moving.{wide, swap-root}
use Rattle.triple_laws.proofs.NodesMet.{without-term}
use Rattle.triple_laws.proofs.OneStep.{Lands, one-step}

-- a text is the value that it is
text-is : (v : Value) → FitsValue str_sort v → str (text_in v) ≡ v
text-is (str s) f = refl
text-is null f = absurd f
text-is nolist f = absurd f
text-is (node_number n) f = absurd f
text-is (list_number n) f = absurd f
text-is (int z) f = absurd f
text-is (boolean b) f = absurd f

-- a program variable stands for its value under a binder too
chosen-var : (x : ProgVar) (v : Thing) (st : Store) (e : Environment)
    → meaning_of (choosing v (with_store (lookup st) e)) (variable (as_var x)) ≡ val (value_in st x)
chosen-var (named y s) v st e = refl

module _ (ps : Procedures) (N : ℕ → Type 0) (x : ProgVar) (u t : Term)
    (free : InTerm (as_var x) t → ⊥)
  where
    abbrev list_variable : Term
    list_variable = variable (bound zero (value list_sort))

    abbrev post : Formula
    post = existential (value list_sort)
        (one_root (node_formula (raised t) (variable (as_var x)) (empty forest) list_variable))

    pub create-sound : Sorted ps (create_node x u)
        → TripleFor ps N (conjunction (empty grove) (equality u t)) (create_node x u) post grove
    create-sound so e st pr r wr mt c wc w picks long =
        one-step ps (Stands grove c post e) picks (run (create_node x u)) st (fill c r)
        (λ k. created k (is_free k (fill c r)) refl)
      where
        created : (k : Pick) (f : Bool) → is_free k (fill c r) ≡ f
            → Lands (Stands grove c post e)
            (cond f (becomes [] (set x (node_number k.node) st)
            (beside (fill c r) (node (text_in (value_of st u)) k.node none k.list none))) bad_pick)
        created k false h = tt
        created k true h = (
          refl,
          λ n. n (
            new,
            wide grove new (λ y. cc) shaped,
            (
              end-same,
              λ m. m (
                val (list_number k.list),
                is-positive k.list list-positive,
                (shaped, (name-is, number-is, refl, refl)),
              ),
            ),
          ),
        )
          where
            new : Trees
            new = node (text_in (value_of st u)) k.node none k.list none

            after-set : Store
            after-set = set x (node_number k.node) st

            whole : Shaped (shape grove) (beside (fill c r) new)
            whole = created-shaped k (text_in (value_of st u)) (fill c r) h w

            shaped : Shaped (shape tree) new
            shaped = record {
              well_formed = right-WellFormed (fill c r) new whole.well_formed;
              width_fits = refl;
              holes_fit = refl;
            }

            end-same : SameAt grove (beside (fill c r) new) (fill c new)
            end-same =
                subst (λ v. SameAt grove (beside (fill c v) new) (fill c new)) (sym mt.0)
                (swap-root c none new wc.holes_fit)

            positives : (positive k.node && positive k.list) ≡ true
            positives =
                (both_true (positive k.node && positive k.list)
                (not (positive (node_uses k.node (fill c r))) && not
                (positive (list_uses k.list (fill c r))))
                h).0

            list-positive : positive k.list ≡ true
            list-positive = (both_true (positive k.node) (positive k.list) positives).1

            name-is : val (str (text_in (value_of st u)))
                ≡ meaning_of (choosing (val (list_number k.list)) (with_store (lookup after-set) e))
                (raised t)
            name-is =
                ap val (text-is (value_of st u) (value-fits str_sort u st so.1
                (proper-store st e pr)))
                ∙ sym (meaning-value str_sort u st e so.1) ∙ mt.1
                ∙ sym (without-term t x (node_number k.node) st e free)
                ∙ sym (raised-meaning (with_store (lookup after-set) e)
                (val (list_number k.list)) t)

            number-is : val (node_number k.node)
                ≡ meaning_of (choosing (val (list_number k.list)) (with_store (lookup after-set) e))
                (variable (as_var x))
            number-is =
                sym (chosen-var x (val (list_number k.list)) after-set e
                ∙ ap val (set-same x (node_number k.node) st))
