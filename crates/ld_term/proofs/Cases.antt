-- Chains of steps, in the parts that the functions make.
use Rattle.std.proofs.Common.{◌≡◌, refl, sym, ap, ◌∙◌, ℕ, List, Option, Some, None, Bool, true, false}
use Rattle.ld_tree.specs.Names.{Sorted}
use Rattle.ld_tree.specs.Maps.{find}
use Rattle.ld_tree.specs.declared.tree.Tree.{Tree}
use Rattle.ld_rec.specs.declared.def.Def.{Def}
use Rattle.ld_rec.specs.Outcome.{Answer, Outcome, Stock, give, as_scoped, continued, ◌>>=◌}
use Rattle.ld_rec.specs.Terms as terms
use Rattle.ld_rec.specs.Terms.{Made, Check, Define, Draft, ended, without_index, scoped_in, language_unless_typed, without_direction, without_nest, prefix_in, only_known, finished, with_scoped, first_all, first_of_value, first_of_form, first_if, is_due}
use Rattle.ld_rec.specs.Words.{is_keyword}
use Rattle.ld_iri.specs.Words.{is_keyword_form}
use Rattle.std.specs.Prelude.{◌||◌, if◌then◌else◌}
use Rattle.ld_rec.specs.Words.{opened}
use Rattle.std.specs.Prelude.{codes}
use Rattle.ld_term.specs.Comes.{Same}
use Rattle.ld_term.specs.Waits.{from_scoped, closed_and_put, closed, flagged, unnested, spoken}
use Rattle.ld_term.proofs.Along.{assoc, alike_trans, alike_then, given}

-- six parts after a first one, as one part after it
module _ {A B : Type 0} (x : Answer A) (l d n p o : A → Answer A) (f : A → Answer B) where
  pub in_one : Same (x >>= l >>= d >>= n >>= p >>= o >>= f) (x >>= (λ a. (l a >>= d >>= n >>= p >>= o) >>= f))
  in_one = λ stock.
      ap (λ q. continued (continued (continued (continued q (λ a. (n a).run stock)) (λ a. (p a).run stock)) (λ a. (o a).run stock)) (λ a. (f a).run stock)) (assoc x.run (λ a. (l a).run) (λ a. (d a).run) stock)
      ∙ ap (λ q. continued (continued (continued q (λ a. (p a).run stock)) (λ a. (o a).run stock)) (λ a. (f a).run stock)) (assoc x.run (λ a. (l a >>= d).run) (λ a. (n a).run) stock)
      ∙ ap (λ q. continued (continued q (λ a. (o a).run stock)) (λ a. (f a).run stock)) (assoc x.run (λ a. (l a >>= d >>= n).run) (λ a. (p a).run) stock)
      ∙ ap (λ q. continued q (λ a. (f a).run stock)) (assoc x.run (λ a. (l a >>= d >>= n >>= p).run) (λ a. (o a).run) stock)
      ∙ assoc x.run (λ a. (l a >>= d >>= n >>= p >>= o).run) (λ a. (f a).run) stock

module _ (check : Check) (rest : terms.Rest) (term : List ℕ) (entries : Sorted Tree) (previous : Option Def) (draft : Draft) where
  pub ended_in_parts : Same (ended check rest term entries previous draft) (without_index entries draft >>= from_scoped check rest term entries previous)
  ended_in_parts = alike_trans
      (in_one (without_index entries draft >>= scoped_in check rest (find entries (codes "@context"))) (language_unless_typed entries) (without_direction entries) (without_nest entries) (prefix_in term (opened (find entries (codes "@prefix")))) (only_known entries) (finished rest term previous))
      (assoc (without_index entries draft).run (λ d. (scoped_in check rest (find entries (codes "@context")) d).run) (λ d. (closed_and_put rest term entries previous d).run))

  pub checked_first : (local : Tree) → Same (scoped_in check rest (Some local) draft >>= closed_and_put rest term entries previous)
      (as_scoped (check draft.made.context local) >>= (λ _. closed_and_put rest term entries previous (with_scoped rest local draft)))
  checked_first local = alike_trans
      (assoc (as_scoped (check draft.made.context local)).run (λ _. (give (with_scoped rest local draft)).run) (λ d. (closed_and_put rest term entries previous d).run))
      (alike_then (as_scoped (check draft.made.context local)).run (λ _. (give (with_scoped rest local draft) >>= closed_and_put rest term entries previous).run) (λ _. (closed_and_put rest term entries previous (with_scoped rest local draft)).run)
      (λ _. given (give (with_scoped rest local draft)).run (with_scoped rest local draft) (λ d. (closed_and_put rest term entries previous d).run) (λ _. refl)))

  pub scoped_by : (local : Option Tree) → find entries (codes "@context") ≡ local → Same (from_scoped check rest term entries previous draft) (scoped_in check rest local draft >>= closed_and_put rest term entries previous)
  scoped_by local e = λ stock. ap (λ o. (scoped_in check rest o draft >>= closed_and_put rest term entries previous).run stock) e

module _ (define : Define) (local : Sorted Tree) (value : List ℕ) (made : Made) where
  pub first_no_name : (is_keyword value || is_keyword_form value) ≡ true → Same (first_all define local value made) (give made)
  first_no_name e = λ stock. ap (λ b. (if b then give made else first_of_value define local value made).run stock) e

  first_name : (is_keyword value || is_keyword_form value) ≡ false → Same (first_all define local value made) (first_of_value define local value made)
  first_name e = λ stock. ap (λ b. (if b then give made else first_of_value define local value made).run stock) e

  pub first_due : (is_keyword value || is_keyword_form value) ≡ false → is_due local value made ≡ true → Same (first_all define local value made) (define value made >>= first_of_form define local value)
  first_due e due = λ stock. first_name e stock ∙ ap (λ b. (first_if b define value made >>= first_of_form define local value).run stock) due

  pub first_form : (is_keyword value || is_keyword_form value) ≡ false → is_due local value made ≡ false → Same (first_all define local value made) (first_of_form define local value made)
  first_form e due = λ stock. first_name e stock ∙ ap (λ b. (first_if b define value made >>= first_of_form define local value).run stock) due
      ∙ given (give made).run made (λ m. (first_of_form define local value m).run) (λ _. refl) stock
