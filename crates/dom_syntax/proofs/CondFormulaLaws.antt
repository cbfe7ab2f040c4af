-- A term that no binder is over is the same in a nameless formula.
use Rattle.formula_syntax.proofs.Replacing.{term-plain}

pub ruleset plain_rules = (term-plain)
