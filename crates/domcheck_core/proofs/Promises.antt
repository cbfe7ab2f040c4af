-- What is promised of runs that are watched, by the laws of watching.
use Rattle.std.proofs.Common.{◌≡◌, ℕ, List, [], ◌∷◌, Bool, true, false, cond, Some, None, option_map, Option, refl, sym, ap, subst, bytes_eq}
use Rattle.model_limits.specs.Limits.{standard_limits}
use Rattle.model_shapes.specs.Sorts.{shape, grove}
use Rattle.model_shapes.specs.Values.{Name, Value}
use Rattle.model_formulas.specs.Formulas.{Named}
use Rattle.model_formulas.specs.WellSorted.{first_fault}
use Rattle.model_commands.specs.Each.{Each}
use Rattle.model_commands.specs.Theories.{ProcedureOf, Procedure, Theory, procedures_of, procedure_named, nameless_procedure}
use Rattle.model_machine.specs.LocalTriples.{MeetsItsSpecification}
use Rattle.model_watch.specs.Watching.{values_in}
use Rattle.model_watch.proofs.Ranges.{values_serve, decided_by}
use Rattle.model_answers.specs.Arguments.{arguments_of, with_arguments, called}
use Rattle.triple_laws.proofs.Theories.{accepted_theories_hold}
use Rattle.watch_laws.proofs.Promises.{never-faults, ends-well}
use Rattle.domcheck_core.specs.Watched.{JudgesSatisfaction, KeepsPromises}
use Rattle.domcheck_core.proofs.Fitting.{called_fits}
use Rattle.domcheck_core.proofs.Headers.{named-pre, named-post, nameless-there}

pub judges_satisfaction : JudgesSatisfaction
judges_satisfaction p store e g watchable sorted whole =
    let d = decided_by (values_in g) p store e g (values_serve g whole) watchable sorted whole in
    (d.so, d.back)

-- what is called is a procedure of the name
called-there : (theory : Theory) (name : Name) (words : List (List ℕ)) (f : ProcedureOf Named)
    (values : List Value) → called theory name words ≡ Some (f, values)
    → procedure_named name theory.procedures ≡ Some f
called-there theory name words f values e =
    found (procedure_named name theory.procedures) e
  where
    same : (g : ProcedureOf Named) (read : Option (List Value))
        → option_map {U = ProcedureOf Named × List Value} (λ us. (g, us)) read ≡ Some (f, values)
        → Some g ≡ Some f
    same g None q = absurd cc
    same g (Some us) q =
        ap (option_map {T = ProcedureOf Named × List Value} (λ pair. pair.0)) q

    found : (o : Option (ProcedureOf Named)) → with_arguments o words ≡ Some (f, values)
        → o ≡ Some f
    found None q = absurd cc
    found (Some g) q = same g (arguments_of g.params words) q

-- each of a list, and so the one that is found by its name
each-named : (P : Procedure → Type 0) (ps : List Procedure) (name : Name) (f : Procedure)
    → Each P ps → procedure_named name ps ≡ Some f → P f
each-named P [] name f all e = absurd cc
each-named P (p ∷ ps) name f all e =
    by_name (bytes_eq name p.name) e (each-named P ps name f all.1)
  where
    same : Some p ≡ Some f → p ≡ f
    same q = cc

    by_name : (t : Bool) → cond t (Some p) (procedure_named name ps) ≡ Some f
        → (procedure_named name ps ≡ Some f → P f) → P f
    by_name true q later = subst P (same q) all.0
    by_name false q later = later q

pub keeps_promises : KeepsPromises
keeps_promises bytes theory file accepted name words f values calls at_grove watchable document
    whole met fuel =
    let formed = file.well_formed in
    let there = called-there theory name words f values calls in
    let found = nameless-there theory formed name f there in
    let spec = each-named (MeetsItsSpecification (procedures_of theory)) (procedures_of theory) name
    (nameless_procedure f) (accepted_theories_hold theory formed accepted) found in
    let fit = called_fits theory name words f values calls in
    let pre = subst (λ s. first_fault f.pre (shape s) ≡ None) at_grove
    (named-pre theory formed name f there) in
    let post = subst (λ s. first_fault f.post (shape s) ≡ None) at_grove
    (named-post theory formed name f there) in (
      never-faults theory formed name f found spec at_grove watchable pre values fit document whole
          met standard_limits fuel,
      λ steps results left e can.
          ends-well theory formed name f found spec at_grove watchable pre values fit document whole
          met standard_limits fuel steps results left e can post,
    )
