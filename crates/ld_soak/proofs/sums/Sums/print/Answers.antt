use Rattle.std.proofs.Common.{◌≡◌, ◌∙◌, ◌++◌, ap, ap₂, append_assoc, List, ℕ}
use Rattle.std.specs.Prelude.{codes}
use Rattle.ld_soak.specs.Soaks.{counted, told}
use Rattle.ld_soak.proofs.Results.{OnOk-map}
use Rattle.ld_soak.proofs.sums.Sums.print.Goals as goal

-- six texts behind one another
six : (o a b c d e f : List ℕ) → (((((o ++ a) ++ b) ++ c) ++ d) ++ e) ++ f ≡ o ++ (a ++ (b ++ (c ++ (d ++ (e ++ f)))))
six o a b c d e f =
    append_assoc ((((o ++ a) ++ b) ++ c) ++ d) e f ∙ append_assoc (((o ++ a) ++ b) ++ c) d (e ++ f) ∙ append_assoc ((o ++ a) ++ b) c (d ++ (e ++ f))
    ∙ append_assoc (o ++ a) b (c ++ (d ++ (e ++ f))) ∙ append_assoc o a (b ++ (c ++ (d ++ (e ++ f))))

pub returns : goal.returns
returns c =
    let sums = c.args.self.now in
    let one = c.in_ok-print_counted.ensures ∙ ap (λ n. c.args.out.now.items ++ counted (codes "documents") n) c.from.ensures in
    let two = c.in_ok-print_counted-2.ensures ∙ ap₂ (λ o n. o ++ counted (codes " loads") n) one c.from-2.ensures in
    let three = c.in_ok-print_counted-3.ensures ∙ ap (λ o. o ++ counted (codes " expanded") sums.expanded) two in
    let four = c.in_ok-print_counted-4.ensures ∙ ap (λ o. o ++ counted (codes " compacted") sums.compacted) three in
    let five = c.in_ok-print_counted-5.ensures ∙ ap (λ o. o ++ counted (codes " flattened") sums.flattened) four in
    OnOk-map c.print_counted-6.result _ _
    (λ last. last ∙ ap₂ (λ o n. o ++ counted (codes " runs") n) five c.from-3.ensures
    ∙ six c.args.out.now.items (counted (codes "documents") sums.documents) (counted (codes " loads") sums.loads) (counted (codes " expanded") sums.expanded)
    (counted (codes " compacted") sums.compacted) (counted (codes " flattened") sums.flattened) (counted (codes " runs") sums.runs))
    c.print_counted-6.ensures
