use Rattle.std.proofs.Common.{◌≡◌, ◌++◌, map, drop}
use Rattle.ld_tree.specs.CompactText.{text, with_commas, member_texts}
use Rattle.ld_tree_write.proofs.Pieces.{rest_of}
use Rattle.ld_tree_write.proofs.print.+print.Given as goal

abbrev pub invariant-print_items-loop-item : goal.invariant-print_items-loop-item
invariant-print_items-loop-item l =
    l.out.items ++ rest_of l.first (map text (drop l.item-index l.item-items)) ≡ l.initial.out.items ++ with_commas (map text l.items)

abbrev pub invariant-print_members-loop-name : goal.invariant-print_members-loop-name
invariant-print_members-loop-name l =
    l.out.items ++ rest_of l.first (member_texts (map (λ e. (e.0, text e.1)) (drop l.name-index l.name-items)))
    ≡ l.initial.out.items ++ with_commas (member_texts (map (λ e. (e.0, text e.1)) l.entries.0))
