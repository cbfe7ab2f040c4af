-- The trees of the program have no hole, so a grove with good numbers is one of the definitions.
use Rattle.std.proofs.Common.{◌≡◌, List, None, subst}
use Rattle.model_shapes.specs.Sorts.{shape, grove}
use Rattle.model_shapes.specs.Trees.{Trees}
use Rattle.model_shapes.specs.Shapes.{Shaped}
use Rattle.model_documents.specs.Numbers.{first_out_of_range, first_repeat}
use Rattle.model_documents.proofs.UniqueNumbers.{unique-WellFormed}
use Rattle.grove_data.proofs.Bare.{forest-bare}
use Rattle.grove_data.specs.Trees.{forest_of}
use Rattle.grove_data.specs.declared.trees.Tree.{Tree}

pub shaped : (ts : List Tree) (g : Trees) → forest_of ts ≡ g → first_out_of_range g ≡ None
    → first_repeat (forest_of ts) ≡ None → Shaped (shape grove) g
shaped ts g e range repeat = subst (Shaped (shape grove)) e (record {
  well_formed = unique-WellFormed (forest_of ts) (rw e range) repeat;
  width_fits = tt;
  holes_fit = forest-bare ts;
})
