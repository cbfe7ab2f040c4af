use Rattle.std.proofs.Common.{◌∙◌}
use Rattle.model_commands.specs.Theories.{nameless_judgement}
use Rattle.assistant_laws.specs.FormPlans.{plan_by_form}
use Rattle.step_filler.proofs.Sizes.{given-proves, offered-where-planned}
use Rattle.step_filler.proofs.form_laws.what_is_obvious_by_form_is_offered.Goals as goal

pub returns-clause-exactly : goal.returns-clause-exactly
returns-clause-exactly c = λ number j. offered-where-planned (plan_by_form j) number
    ∙ c.what_is_obvious_by_form_is_proved.ensures.exactly j

pub returns-clause-proved : goal.returns-clause-proved
returns-clause-proved c = λ procedures version number j.
    given-proves procedures version number (nameless_judgement j) (plan_by_form j)
    (c.what_is_obvious_by_form_is_proved.ensures.proved procedures j number)
