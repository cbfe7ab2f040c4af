-- The names of the rules that a step of a proof may cite. They are those of the table of rules, in
-- its order (law `the_table_has_the_names` of rule_table).
use Rattle.std.specs.Prelude.{ℕ, List, [], ◌∷◌, ◌++◌, Bool, bytes_eq, codes}
use Rattle.std.specs.List.{list_any}

-- the rules of entailment
abbrev pub entailment_rule_names : List (List ℕ)
entailment_rule_names =
    codes "id" ∷ codes "cut" ∷ codes "true_in" ∷ codes "false_out" ∷ codes "and_in" ∷
    codes "and_left" ∷ codes "and_right" ∷ codes "or_left" ∷ codes "or_right" ∷ codes "or_out" ∷
    codes "imp_in" ∷ codes "imp_out" ∷ codes "not_in" ∷ codes "not_out" ∷ codes "classical" ∷
    codes "forall_in" ∷ codes "forall_out" ∷ codes "exists_in" ∷ codes "exists_out" ∷
    codes "eq_refl" ∷ codes "eq_subst" ∷ codes "distinct" ∷ codes "int_total" ∷ codes "linear" ∷
    codes "concat" ∷ codes "star_assoc" ∷ codes "star_assoc_back" ∷ codes "star_left_assoc" ∷
    codes "star_left_assoc_back" ∷ codes "star_right_assoc" ∷ codes "star_right_assoc_back" ∷
    codes "star_mid_assoc" ∷ codes "star_mid_assoc_back" ∷ codes "star_unit" ∷
    codes "star_unit_back" ∷ codes "unit_star" ∷ codes "unit_star_back" ∷
    codes "star_left_unit" ∷ codes "star_left_unit_back" ∷ codes "star_right_unit" ∷
    codes "star_right_unit_back" ∷ codes "plus_assoc" ∷ codes "plus_assoc_back" ∷
    codes "plus_comm" ∷ codes "plus_unit" ∷ codes "plus_unit_back" ∷ codes "plus_left_assoc" ∷
    codes "plus_left_assoc_back" ∷ codes "plus_left_unit" ∷ codes "plus_left_unit_back" ∷
    codes "mono_star" ∷ codes "mono_star_left" ∷ codes "mono_star_right" ∷ codes "mono_plus" ∷
    codes "mono_plus_left" ∷ codes "mono_node" ∷ codes "mono_tree" ∷ codes "mono_root" ∷
    codes "mono_app" ∷ codes "mono_hole_adj" ∷ codes "mono_ctx_adj" ∷ codes "pure_out" ∷
    codes "pure_in" ∷ codes "hole_left" ∷ codes "hole_left_back" ∷ codes "hole_right" ∷
    codes "hole_right_back" ∷ codes "app_assoc" ∷ codes "app_assoc_back" ∷ codes "app_node" ∷
    codes "app_node_back" ∷ codes "app_tree" ∷ codes "app_tree_back" ∷ codes "app_root" ∷
    codes "app_root_back" ∷ codes "app_star_left" ∷ codes "app_star_left_back" ∷
    codes "app_star_right" ∷ codes "app_star_right_back" ∷ codes "app_plus" ∷
    codes "app_plus_back" ∷ codes "hole_adj_in" ∷ codes "hole_adj_out" ∷ codes "ctx_adj_in" ∷
    codes "ctx_adj_out" ∷ codes "app_exists_part" ∷ codes "app_exists_ctx" ∷
    codes "app_or_part" ∷ codes "app_or_ctx" ∷ codes "some" ∷ codes "cancel_app" ∷
    codes "cancel_left" ∷ codes "cancel_right" ∷ codes "cancel_plus" ∷ codes "is_in" ∷
    codes "is_out" ∷ codes "is_mono" ∷ codes "node_and" ∷ codes "tree_and" ∷ codes "root_and" ∷
    codes "node_some" ∷ codes "not_null" ∷ codes "apart_star" ∷ codes "apart_plus" ∷
    codes "apart_up" ∷ codes "forest_cases" ∷ codes "grove_cases" ∷ codes "empty_star" ∷
    codes "empty_plus" ∷ codes "tree_full" ∷ codes "root_full" ∷ codes "head" ∷ codes "last" ∷
    codes "len_empty" ∷ codes "len_zero" ∷ codes "len_tree" ∷ codes "len_star" ∷
    codes "len_some" ∷ codes "len_unique" ∷ codes "len_nonneg" ∷ []

-- the rules for triples, and the axioms of the commands
abbrev pub triple_rule_names : List (List ℕ)
triple_rule_names =
    codes "skip" ∷ codes "assign" ∷ codes "seq" ∷ codes "if" ∷ codes "while" ∷ codes "local" ∷
    codes "call" ∷ codes "frame" ∷ codes "consequence" ∷ codes "eliminate" ∷
    codes "disjunction" ∷ codes "absurd" ∷ codes "instance" ∷ codes "name" ∷ codes "children" ∷
    codes "item" ∷ codes "item_none" ∷ codes "parent" ∷ codes "parent_none" ∷ codes "create" ∷
    codes "append" ∷ codes "remove" ∷ codes "insert_before" ∷ codes "insert_last" ∷ []

-- those of the axioms of insertBefore, which version 1 doesn't have
abbrev pub second_version_names : List (List ℕ)
second_version_names = codes "insert_before" ∷ codes "insert_last" ∷ []

-- a rule has the name
abbrev pub is_rule_name : List ℕ → Bool
is_rule_name name = list_any (bytes_eq name) (entailment_rule_names ++ triple_rule_names)
