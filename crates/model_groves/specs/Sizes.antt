-- How many nodes a grove has, and its greatest numbers.
use Rattle.std.specs.Prelude.{ℕ, ◌+◌, max}
use Rattle.model_shapes.specs.Trees.{Trees, of_nodes}

-- the greatest number of a node
abbrev pub greatest_node : Trees → ℕ
greatest_node = of_nodes max (λ number list. number)

-- the greatest number of a list
abbrev pub greatest_list : Trees → ℕ
greatest_list = of_nodes max (λ number list. list)

-- how many nodes there are
abbrev pub size : Trees → ℕ
size = of_nodes ◌+◌ (λ number list. 1)
