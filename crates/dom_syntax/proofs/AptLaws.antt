-- Apt commands pass each test by itself.
use Rattle.std.proofs.Common.{◌≡◌, Bool, true, false, ◌&&◌, List}
use Rattle.std.specs.Bool.{OnTrue}
use Rattle.std.specs.List.{list_all}
use Rattle.std.proofs.lemmas.Bool.{and_parts}
use Rattle.model_commands.specs.Commands.{Command}
use Rattle.model_commands.specs.SortTests.{callee_known, parts_fit, results_apart}
use Rattle.model_files.specs.FileFaults.{is_of_version, spares}
use Rattle.dom_syntax.specs.Apt.{is_apt}
use Rattle.dom_syntax.specs.declared.scopes.Scope.{Scope}
use Rattle.dom_syntax.specs.Scopes.{callees_in, procedure_in, theory_in}
use Rattle.dom_syntax.proofs.ScopeTestLaws.{all-weaker, settled-known, settled-declared}

module _ (scope : Scope) where
  apt-weaker : (weaker : Command → Bool)
      → ((c : Command) → is_apt scope c ≡ true → weaker c ≡ true) → (b : Bool) (cs : List Command)
      → OnTrue b (list_all (is_apt scope) cs ≡ true) → OnTrue b (list_all weaker cs ≡ true)
  apt-weaker weaker f false cs all = all
  apt-weaker weaker f true cs all = all-weaker (is_apt scope) weaker f cs all

  pub apt-of-version : (b : Bool) (cs : List Command)
      → OnTrue b (list_all (is_apt scope) cs ≡ true)
      → OnTrue b (list_all (is_of_version (theory_in scope.names.now).version) cs ≡ true)
  apt-of-version =
      apt-weaker (is_of_version (theory_in scope.names.now).version) (λ c e. (and_parts _ _ e).0)

  pub apt-known : (b : Bool) (cs : List Command) → OnTrue b (list_all (is_apt scope) cs ≡ true)
      → OnTrue b (list_all (callee_known (callees_in scope.names.now)) cs ≡ true)
  apt-known =
      apt-weaker (callee_known (callees_in scope.names.now))
      (λ c e. (and_parts _ _ (and_parts _ _ e).1).0)

  -- its parts, what it sets, and the results of a call
  its-own : (c : Command) → is_apt scope c ≡ true
      → (parts_fit (callees_in scope.names.now) c
      && (spares (procedure_in scope).params c && results_apart c)) ≡ true
  its-own c e =
      (and_parts (callee_known (callees_in scope.names.now) c)
      (parts_fit (callees_in scope.names.now) c
      && (spares (procedure_in scope).params c && results_apart c))
      (and_parts (is_of_version (theory_in scope.names.now).version c)
      (callee_known (callees_in scope.names.now) c
      && (parts_fit (callees_in scope.names.now) c
      && (spares (procedure_in scope).params c && results_apart c))) e).1).1

  pub apt-fits : (b : Bool) (cs : List Command) → OnTrue b (list_all (is_apt scope) cs ≡ true)
      → OnTrue b (list_all (parts_fit (callees_in scope.names.now)) cs ≡ true)
  apt-fits =
      apt-weaker (parts_fit (callees_in scope.names.now))
      (λ c e. (and_parts (parts_fit (callees_in scope.names.now) c)
      (spares (procedure_in scope).params c && results_apart c) (its-own c e)).0)

  -- what it sets, and the results of a call
  its-sets : (c : Command) → is_apt scope c ≡ true
      → (spares (procedure_in scope).params c && results_apart c) ≡ true
  its-sets c e =
      (and_parts (parts_fit (callees_in scope.names.now) c)
      (spares (procedure_in scope).params c && results_apart c) (its-own c e)).1

  pub apt-spares : (b : Bool) (cs : List Command) → OnTrue b (list_all (is_apt scope) cs ≡ true)
      → OnTrue b (list_all (spares (procedure_in scope).params) cs ≡ true)
  apt-spares =
      apt-weaker (spares (procedure_in scope).params)
      (λ c e. (and_parts (spares (procedure_in scope).params c) (results_apart c)
      (its-sets c e)).0)

  pub apt-apart : (b : Bool) (cs : List Command) → OnTrue b (list_all (is_apt scope) cs ≡ true)
      → OnTrue b (list_all results_apart cs ≡ true)
  apt-apart =
      apt-weaker results_apart
      (λ c e. (and_parts (spares (procedure_in scope).params c) (results_apart c)
      (its-sets c e)).1)

pub ruleset sure_rules = (
  settled-known,
  settled-declared,
  apt-of-version,
  apt-known,
  apt-fits,
  apt-spares,
  apt-apart,
)
