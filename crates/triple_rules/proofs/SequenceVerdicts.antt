-- The verdict of the rule for blocks.
use Rattle.std.proofs.Common.{◌≡◌, ℕ, refl, sym, ap, ◌∙◌, subst, Bool, true, false, ◌&&◌, cond, List, [], ◌∷◌, Option, Some, None}
use Rattle.std.proofs.lemmas.Bool.{and_parts, and_from}
use Rattle.model_shapes.specs.Sorts.{DataSort, Sort}
use Rattle.model_shapes.specs.Tests.{same_data_sort}
use Rattle.model_shapes.proofs.Truth.{false≢true}
use Rattle.model_shapes.proofs.Tests.{same_data_sort-is, same_data_sort-refl}
use Rattle.model_terms.specs.Terms.{Term}
use Rattle.model_formulas.proofs.SameFormulas.{same_formula-is, same_formula-refl}
use Rattle.model_formulas.specs.SameFormulas.{same_formula}
use Rattle.model_formulas.specs.Formulas.{Formula}
use Rattle.model_commands.specs.Commands.{Command, Block, block, stop, ◌then◌}
use Rattle.model_commands.specs.Theories.{Judgement, Step, entails, triple}
use Rattle.theory_syntax.specs.SameCommands.{same_command}
use Rattle.theory_syntax.proofs.SameCommands.{same_command-is, same_command-refl}
use Rattle.rule_table.specs.Letters.{Letters, Link}
use Rattle.rule_table.specs.Rules.{seq_rule, chain, block_of, last_of}
use Rattle.rule_table.specs.Accepted.{judgement_numbered, in_front, cited}
use Rattle.rule_table.specs.Verdicts.{Written, Follows, instance_verdict, premises_verdict, IsVerdict}
use Rattle.rule_table.proofs.SomeLetters.{plain_letters}
use Rattle.triple_rules.specs.Tests.{no_items}
use Rattle.triple_rules.specs.SequenceTests.{is_chain, runs, seq_test, block_in, after, next, reached, ends}
use Rattle.triple_rules.proofs.Stages.{by_shape, by_premises, founded, misshapen}
use Rattle.triple_rules.proofs.SimpleVerdicts.{step_of, no-items, items-none, parts-of}

-- a command, and the formula behind it
abbrev link_of : Command → Formula → Link
link_of c q = record { command = c; behind = q }

-- the judgements are the triples of links that make the block and end with the formula
pub record Linked (js : List Judgement) (p : Formula) (b : Block) (q : Formula) (k : DataSort)
    : Type 0 where
  pub links : List Link
  pub judgements : chain p links k ≡ js
  pub commands : block_of links ≡ b
  pub ends : last_of p links ≡ q

in-front : (p p' q : Formula) (c c' : Command) (k k' : DataSort) (js is : List Judgement)
    → p' ≡ p → c' ≡ c → k' ≡ k → js ≡ is
    → ◌≡◌ {A = List Judgement} (triple p c q k ∷ js) (triple p' c' q k' ∷ is)
in-front p p' q c c' k k' js is a b d e = rw (a, b, d, e) refl

linked-is : (js : List Judgement) (p : Formula) (b : Block) (q : Formula) (k : DataSort)
    → is_chain js p b q k ≡ true → Linked js p b q k
linked-is [] p stop q k e = record {
  links = [];
  judgements = refl;
  commands = refl;
  ends = same_formula-is p q e;
}
linked-is (triple p' c' q' k' ∷ js) p (c then b) q k e =
    let h = and_parts (same_formula p' p && (same_command c' c && same_data_sort k' k)) _ e in
    let f = and_parts (same_formula p' p) (same_command c' c && same_data_sort k' k) h.0 in
    let g = and_parts (same_command c' c) (same_data_sort k' k) f.1 in
    let later = linked-is js q' b q k h.1 in
    record {
      links = link_of c q' ∷ later.links;
      judgements = in-front p p' q' c c' k k' (chain q' later.links k) js
          (same_formula-is p' p f.0) (same_command-is c' c g.0) (same_data_sort-is k' k g.1)
          later.judgements;
      commands = ap (λ z. c then z) later.commands;
      ends = later.ends;
    }
linked-is js p b q k e = false≢true e

linked-from : (p : Formula) (links : List Link) (k : DataSort)
    → is_chain (chain p links k) p (block_of links) (last_of p links) k ≡ true
linked-from p [] k = same_formula-refl p
linked-from p (link ∷ links) k =
    and_from (same_formula p p && (same_command link.command link.command && same_data_sort k k)) _
    (and_from (same_formula p p) _ (same_formula-refl p)
    (and_from (same_command link.command link.command) _ (same_command-refl link.command)
    (same_data_sort-refl k))) (linked-from link.behind links k)

-- links of the commands of a block, each with the formula behind it
abbrev links_with : Formula → Block → List Link
links_with q stop = []
links_with q (c then b) = link_of c q ∷ links_with q b

links-block : (q : Formula) (b : Block) → block_of (links_with q b) ≡ b
links-block q stop = refl
links-block q (c then b) = ap (λ z. c then z) (links-block q b)

links-end : (q : Formula) (b : Block) → last_of q (links_with q b) ≡ q
links-end q stop = refl
links-end q (c then b) = links-end q b

module _ (arguments : List Term) (premises : Option (List Judgement)) (p q : Formula)
    (k : DataSort) where
  module _ (c : Command) (b : Block) where
    abbrev linking : Formula → List Link → Letters
    linking behind links =
        record plain_letters { P = p; Q = behind; C = c; links = links; k = k }

    abbrev blocked : Written
    blocked = step_of arguments premises p (block (c then b)) q k

    runs-is : runs premises p (c then b) q k ≡ true → (js : List Judgement)
        × (Some js ≡ premises) × Linked js p (c then b) q k
    runs-is e = by_citations premises e
      where
        by_citations : (o : Option (List Judgement)) → runs o p (c then b) q k ≡ true
            → (js : List Judgement) × (Some js ≡ o) × Linked js p (c then b) q k
        by_citations None e = false≢true e
        by_citations (Some js) e = (js, refl, linked-is js p (c then b) q k e)

    founded-by : (links : List Link) (js : List Judgement) → Some js ≡ premises
        → chain p links k ≡ js → block_of links ≡ c then b → last_of p links ≡ q
        → no_items arguments ≡ true → IsVerdict (seq_rule ∷ []) blocked instance_verdict
    founded-by [] js cited judgements commands ends e = absurd cc
    founded-by (link ∷ links) js cited judgements commands ends e =
        let first : link.command ≡ c = cc in
        let others : block_of links ≡ b = cc in
        founded seq_rule blocked (linking link.behind links) (
          (
            (no-items arguments e, tt, rw (others, ends) refl),
            ap Some (rw (sym first) judgements) ∙ cited,
          ),
          tt,
        )

    seq-follows : (m : Letters) → Follows blocked (seq_rule m)
        → runs premises p (c then b) q k ≡ true
    seq-follows m f =
        let same = parts-of f.0.2 in
        let all : List Link = link_of m.C m.Q ∷ m.links in
        let commands : block_of all ≡ c then b = let g = same.command in cc in
        subst (λ o. runs o p (c then b) q k ≡ true) f.1
        (subst (λ z. is_chain (chain m.P all m.k) p (c then b) q z ≡ true) same.sort
        (subst (λ z. is_chain (chain m.P all m.k) p (c then b) z m.k ≡ true) same.post
        (subst (λ z. is_chain (chain m.P all m.k) p z (last_of m.P all) m.k ≡ true) commands
        (subst (λ z. is_chain (chain m.P all m.k) z (block_of all) (last_of m.P all) m.k ≡ true)
        same.pre (linked-from m.P all m.k)))))

    seq-found : no_items arguments ≡ true → IsVerdict (seq_rule ∷ []) blocked
        (cond (runs premises p (c then b) q k) instance_verdict premises_verdict)
    seq-found e =
        by_premises seq_rule blocked (runs premises p (c then b) q k) instance_verdict
        (linking q (links_with q b))
        (no-items arguments e, tt, rw (links-block q b, links-end q b) refl)
        (λ t. let x = runs-is t in
        founded-by x.2.links x.0 x.1 x.2.judgements x.2.commands x.2.ends e) seq-follows

    seq-block : IsVerdict (seq_rule ∷ []) blocked
        (seq_test arguments (runs premises p (c then b) q k) (block (c then b)))
    seq-block =
        by_shape seq_rule blocked (no_items arguments)
        (cond (runs premises p (c then b) q k) instance_verdict premises_verdict) seq-found
        (λ m h. items-none arguments h.0)

  seq-of : (b : Block) → IsVerdict (seq_rule ∷ []) (step_of arguments premises p (block b) q k)
      (seq_test arguments (runs premises p b q k) (block b))
  seq-of (c then b) = seq-block c b
  seq-of stop =
      misshapen seq_rule (step_of arguments premises p (block stop) q k)
      (λ m h. let e : block (m.C then block_of m.links) ≡ block stop = (parts-of h.2).command in
      absurd cc)

  pub seq-exact : (c : Command) → IsVerdict (seq_rule ∷ []) (step_of arguments premises p c q k)
      (seq_test arguments (runs premises p (block_in c) q k) c)
  seq-exact (block b) = seq-of b
  seq-exact c =
      misshapen seq_rule (step_of arguments premises p c q k)
      (λ m h. let e : block (m.C then block_of m.links) ≡ c = (parts-of h.2).command in absurd cc)

-- THE SAME BY NUMBERS
front-runs : (o : Option (List Judgement)) (p' : Formula) (c' : Command) (q' : Formula)
    (k' : DataSort) (p : Formula) (c : Command) (b : Block) (q : Formula) (k : DataSort)
    → runs (in_front (Some (triple p' c' q' k')) o) p (c then b) q k
    ≡ ((same_formula p' p && (same_command c' c && same_data_sort k' k)) && runs o q' b q k)
front-runs None p' c' q' k' p c b q k =
    sym (and-false (same_formula p' p && (same_command c' c && same_data_sort k' k)))
  where
    and-false : (x : Bool) → (x && false) ≡ false
    and-false true = refl
    and-false false = refl
front-runs (Some js) p' c' q' k' p c b q k = refl

front-entails : (o : Option (List Judgement)) (p' q' : Formula) (s : Sort) (p : Formula)
    (c : Command) (b : Block) (q : Formula) (k : DataSort)
    → runs (in_front (Some (entails p' q' s)) o) p (c then b) q k ≡ false
front-entails None p' q' s p c b q k = refl
front-entails (Some js) p' q' s p c b q k = refl

front-stop : (j : Option Judgement) (o : Option (List Judgement)) (p : Formula) (q : Formula)
    (k : DataSort) → runs (in_front j o) p stop q k ≡ false
front-stop None None p q k = refl
front-stop None (Some js) p q k = refl
front-stop (Some j) None p q k = refl
front-stop (Some (triple a c b d)) (Some js) p q k = refl
front-stop (Some (entails a b s)) (Some js) p q k = refl

test-first : (x : Bool) (q' : Formula) (f : Formula → Option Formula) (q : Formula)
    → ends (next (cond x (Some q') None) f) q ≡ (x && ends (f q') q)
test-first true q' f q = refl
test-first false q' f q = refl

pub by-numbers : (earlier : List Step) (ns : List ℕ) (p : Formula) (b : Block) (q : Formula)
    (k : DataSort) → ends (reached earlier ns p b k) q ≡ runs (cited earlier ns) p b q k
by-numbers earlier [] p stop q k = refl
by-numbers earlier [] p (c then b) q k = refl
by-numbers earlier (n ∷ ns) p stop q k =
    sym (front-stop (judgement_numbered n earlier) (cited earlier ns) p q k)
by-numbers earlier (n ∷ ns) p (c then b) q k =
    by_judgement (judgement_numbered n earlier) (λ q'. by-numbers earlier ns q' b q k)
  where
    by_judgement : (j : Option Judgement)
        → ((q' : Formula) → ends (reached earlier ns q' b k) q ≡ runs (cited earlier ns) q' b q k)
        → ends (next (after j p c k) (λ q'. reached earlier ns q' b k)) q
        ≡ runs (in_front j (cited earlier ns)) p (c then b) q k
    by_judgement None later = by_rest (cited earlier ns)
      where
        by_rest : (o : Option (List Judgement)) → false ≡ runs (in_front None o) p (c then b) q k
        by_rest o = refl
    by_judgement (Some (entails p' q' s)) later =
        sym (front-entails (cited earlier ns) p' q' s p c b q k)
    by_judgement (Some (triple p' c' q' k')) later =
        test-first (same_formula p' p && (same_command c' c && same_data_sort k' k)) q'
        (λ z. reached earlier ns z b k) q
        ∙ ap (λ z. (same_formula p' p && (same_command c' c && same_data_sort k' k)) && z)
        (later q')
        ∙ sym (front-runs (cited earlier ns) p' c' q' k' p c b q k)
