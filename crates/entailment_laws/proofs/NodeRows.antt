-- The rows of nodes, roots, and what is first or last are sound.
use Rattle.std.proofs.Common.{◌≡◌, ℕ, sym, ap, arith, ◌∙◌, subst}
use Rattle.model_shapes.specs.Sorts.{shape, tree, forest, grove, with_outer}
use Rattle.model_shapes.specs.Values.{node_number, list_number, null, nolist}
use Rattle.model_shapes.specs.Trees.{width}
use Rattle.model_shapes.specs.Things.{Thing, val}
use Rattle.model_terms.specs.Terms.{literal}
use Rattle.model_formulas.specs.Formulas.{negation}
use Rattle.model_formulas.specs.Satisfaction.{Meets, IfNode, Entails, meaning_of}
use Rattle.entailment_laws.specs.Judgements.{Reading}
use Rattle.rule_table.specs.Letters.{Letters, one_node, other_node}
use Rattle.rule_table.specs.Notation.{◌and◌, ◌equals◌}
use Rattle.rule_table.specs.Entailments.{nodes}
use Rattle.rule_table.proofs.SomeLetters.{◌&◌}
use Rattle.entailment_laws.proofs.SoundRows.{SoundEntries}
use Rattle.entailment_laws.proofs.Nodes as No
use Rattle.entailment_laws.proofs.Nodes.{Says, node_alone}
use Rattle.entailment_laws.proofs.Splits as Sp
use Rattle.entailment_laws.proofs.Closed as Cl

number≢null : (n : ℕ) (x : Thing) → val (node_number n) ≡ x → x ≡ val null → ⊥
number≢null n x e f = cc

number≢nolist : (n : ℕ) (x : Thing) → val (list_number n) ≡ x → x ≡ val nolist → ⊥
number≢nolist n x e f = cc

-- two nodes that are one
one-node : (l : Letters) → Entails (one_node l l.P and other_node l)
    (one_node l (l.P and l.Q) and (((l.S equals l.T) and (l.I equals l.J)) and (l.L equals l.M)))
    l.s
one-node l e pr r wr m =
    let (s, i, k, u, form, here) =
    node_alone r (Says e l.S l.I l.L (Meets l.P e (with_outer forest l.s))) m.0 in
    let there : Says e l.T l.J l.M (Meets l.Q e (with_outer forest l.s)) s i k u =
    subst (λ z. IfNode z (Says e l.T l.J l.M (Meets l.Q e (with_outer forest l.s)))) form m.1 in (
      subst (λ z. IfNode z (Says e l.S l.I l.L (Meets (l.P and l.Q) e (with_outer forest l.s))))
          (sym form) (here.0, here.1, here.2, (here.3, there.3)),
      ((sym here.0 ∙ there.0, sym here.1 ∙ there.1), sym here.2 ∙ there.2),
    )

-- the numbers of a node
not-null : (l : Letters) → Entails (one_node l l.P)
    (negation (l.I equals literal null) and negation (l.L equals literal nolist)) l.s
not-null l e pr r wr m =
    let (s, i, k, u, form, here) =
    node_alone r (Says e l.S l.I l.L (Meets l.P e (with_outer forest l.s))) m in
    (number≢null i (meaning_of e l.I) here.1, number≢nolist u (meaning_of e l.L) here.2)

module _ (reading : Reading) where
  pub sound : SoundEntries reading nodes
  sound =
      ((λ l so w c f. one-node l) & tt)
      & ((λ l so w c f e pr r wr m. (m.0.0, (m.0.1, m.1.1))) & tt)
      & ((λ l so w c f e pr r wr m. (m.0.0, (m.0.1, m.1.1))) & tt)
      & ((λ l so w c f. Cl.node_some) & tt)
      & ((λ l so w c f. not-null l) & tt)
      & ((λ l so w c f. No.apart_star l.K l.H l.P l.Q l.S l.I l.L l.T l.J l.M (shape forest)) & tt)
      & ((λ l so w c f. No.apart_plus l.K l.H l.P l.Q l.S l.I l.L l.T l.J l.M (shape grove)) & tt)
      & ((λ l so w c f. No.apart_up l.K l.Q l.S l.I l.L l.T l.J l.M (shape tree)) & tt)
      & ((λ l so w c f. Cl.forest_cases) & tt)
      & ((λ l so w c f. Cl.grove_cases) & tt)
      & ((λ l so w c f. Sp.empty_star l.P l.Q forest (shape forest)) & tt)
      & ((λ l so w c f. Sp.empty_plus l.P l.Q grove (shape grove)) & tt)
      & ((λ l so w c f e pr r wr m. absurd (omega (arith, m.0.0.width_fits, ap width m.1))) & tt)
      & ((λ l so w c f e pr r wr m. absurd (omega (arith, m.0.0.width_fits, ap width m.1))) & tt)
      & ((λ l so w c f. Sp.head l.P l.Q l.A l.B) & tt)
      & ((λ l so w c f. Sp.last l.P l.Q l.A l.B) & tt) & tt
