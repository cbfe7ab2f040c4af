use Rattle.std.proofs.Common.{◌≡◌, ◌<◌, ℕ, length, subst, sym, arith}
use Rattle.std.proofs.lemmas.List.{length-map}
use Rattle.text_tokens.specs.Listed.{seen}
use Rattle.model_grammar.proofs.Sizes.{theory_small}
use Rattle.call_tests.proofs.runs.machine.Goals as goal

pub returns : goal.returns
returns c =
    let few : length c.in_ok-tokens.tokens < 4294967295 =
    omega (arith, c.len.ensures, c.if-len-gt1000.false) in
    theory_small c.in_ok-read_theory.ensures.found
    (subst (λ (n : ℕ). n < 4294967295) (sym (length-map c.in_ok-tokens.tokens seen)) few)
