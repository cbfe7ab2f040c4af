-- Needn't be believed: the promise speaks of the variables that a command modifies. What a walk
-- down a command has found so far.
use Rattle.std.specs.Prelude.{◌≡◌, ◌⊎◌, true, false, List, [], ◌∷◌, map}
use Rattle.model_terms.specs.Stores.{ProgVar, same_name}
use Rattle.model_commands.specs.Commands.{Among}
use Rattle.model_commands.specs.SortTests.{distinct_by, is_among}
use Rattle.dom_terms.specs.Terms.{prog_var_of}
use Rattle.dom_syntax.specs.declared.modifying.Shadows.{Shadows}
use Rattle.dom_syntax.specs.declared.modifying.Shadows.TheVariants as s
use Rattle.dom_syntax.specs.declared.modifying.Found.{Found}
use Rattle.dom_syntax.specs.VariableSets.{Holds}

-- the variables of the blocks around
abbrev pub shadowed_by : Shadows → List ProgVar
shadowed_by s.Nothing = []
shadowed_by (s.Local' x p outer) = prog_var_of x.now ∷ shadowed_by outer

-- the variable is none of them
abbrev pub IsOutside : Shadows → ProgVar → Type 0
IsOutside over x = is_among (shadowed_by over) x ≡ false

-- what was found
abbrev pub found_in : Found → List ProgVar
found_in found = map prog_var_of found.variables

-- the set is that of the list, in which none repeats
pub record IsFound (found : Found) : Type 0 where
  pub holds : Holds found.set (found_in found)
  pub once : distinct_by same_name (found_in found) ≡ true

-- nothing is found but what was and those that are such
pub record Adds (first now : List ProgVar) (Such : ProgVar → Type 0) : Type 0 where
  pub each : (x : ProgVar) → Among now x → Among first x ⊎ Such x
  pub old : (x : ProgVar) → Among first x → Among now x
  pub such : (x : ProgVar) → Such x → Among now x
