use Rattle.std.proofs.Common.{◌∙◌, ap}
use Rattle.std.proofs.lemmas.Result.{IfOk-weaker}
use Rattle.model_grammar.specs.TheoryWriting.{theory_text}
use Rattle.generator_laws.proofs.MadeText.{text_is_made}
use Rattle.domcheck_core.proofs.generated.generated_text.Goals as goal

-- what is written is the text of the theory, which is that of `make`
pub returns : goal.returns
returns c =
    IfOk-weaker c.write_theory.result _ _
    (λ text h. h ∙ ap theory_text c.in_ok-theory.ensures ∙ text_is_made c.args.count)
    c.write_theory.ensures.written
