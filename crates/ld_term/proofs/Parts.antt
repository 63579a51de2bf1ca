-- The parts of a definition, case by case.
use Rattle.std.proofs.Common.{◌≡◌, refl, sym, ap, ◌∙◌, subst, ℕ, List, Option, Some, None, Bool, true, false, not, ◌&&◌, ◌||◌}
use Rattle.std.specs.Prelude.{codes, if◌then◌else◌}
use Rattle.ld_iri.specs.Words.{is_keyword_form}
use Rattle.ld_tree.specs.Names.{Sorted}
use Rattle.ld_tree.specs.Maps.{find}
use Rattle.ld_tree.specs.declared.tree.Tree.{Tree}
use Rattle.ld_rec.specs.declared.def.Def.{Def}
use Rattle.ld_rec.specs.Iris.{parts}
use Rattle.ld_rec.specs.Outcome.{Answer, Outcome, Stock, give, continued, ◌>>=◌}
use Rattle.ld_rec.specs.Records.{def_of, new_def}
use Rattle.ld_rec.specs.Terms as terms
use Rattle.ld_rec.specs.Terms.{Made, Check, Define, Draft, Mapped, mapped, mapped_or_ignored, ignored, some_draft, by_own, by_own_parts, by_iri, by_id, first_if, first_all, is_due, is_compound, if_means, marked, meaning_in, with_mapping, joined_or, forward, protected_in, type_in, either_way, drafted, with_type, backward_to, reversed_to}
use Rattle.ld_rec.specs.Words.{opened, is_keyword}
use Rattle.ld_term.specs.declared.half.Task.{Task}
use Rattle.ld_term.specs.declared.half.Aim.{Aim}
use Rattle.ld_term.specs.declared.half.Step.{Step}
use Rattle.ld_term.specs.declared.half.Before.{Before}
use Rattle.ld_term.specs.Comes.{Same, Alike, Runs}
use Rattle.ld_term.specs.Waits.{draft_of, own_mapping, own_and_mapped, from_own, meant_and_mapped, first_and_meant, text_and_mapped, first_and_named, kept_and_mapped, same_and_mapped, first_and_typed, first_and_backed, first_by, first_and_aimed, aimed, from_step, type_and_rest}
use Rattle.ld_term.specs.declared.half.Aim.TheVariants.{Typed}
use Rattle.ld_term.proofs.Along.{value, assoc, alike_trans, alike_first, alike_then, given}

module _ (define : Define) (local : Sorted Tree) (text : List ℕ) (made : Made) where
  -- nothing is to be defined before the text
  pub first_none : (before : Option Before) → before ≡ None → Same (first_all define local text made) (first_by define local text before made) → (stock : Stock) → (first_all define local text made).run stock ≡ value made
  first_none before e h = subst (λ b. Same (first_all define local text made) (first_by define local text b made)) e h

module _ (check : Check) (define : Define) (rest : terms.Rest) (local : Sorted Tree) (task : Task) (entries : Sorted Tree) (made : Made) where
  -- something is to be defined before the text
  pub first_some : (aim : Aim) (text : List ℕ) (before : Option Before) (b : Before) → before ≡ Some b → Same (first_all define local text made) (first_by define local text before made) → (step : Step)
      → Same (first_and_aimed check define rest local task entries aim text (Some b) made) (from_step check define rest local step made)
      → Same (first_all define local text made >>= aimed check define rest local task entries aim text) (from_step check define rest local step made)
  first_some aim text before b e h step waits = alike_trans
      (alike_first (first_all define local text made).run (first_by define local text (Some b) made).run (λ m. (aimed check define rest local task entries aim text m).run)
      (subst (λ o. Same (first_all define local text made) (first_by define local text o made)) e h))
      waits

  -- a prefix of the term's own that isn't due
  pub own_here : (p : List ℕ × List ℕ) → parts task.term ≡ Some p → is_due local p.0 made ≡ false → Same (own_and_mapped check define rest local task entries made) (from_own check rest task entries made)
  own_here p is due = λ stock.
      ap (λ q. (by_own_parts define local task.term q (draft_of task made) >>= mapped check rest task.term entries task.previous).run stock) is
      ∙ ap (λ b. ((first_if b define p.0 made >>= (λ m. give (with_mapping (Some (joined_or task.term p.1 (def_of m.context p.0))) (record (draft_of task made) { made = m })))) >>= mapped check rest task.term entries task.previous).run stock) due
      ∙ given (give (with_mapping (Some (joined_or task.term p.1 (def_of made.context p.0))) (draft_of task made))).run (with_mapping (Some (joined_or task.term p.1 (def_of made.context p.0))) (draft_of task made)) (λ d. (mapped check rest task.term entries task.previous d).run) (λ _. refl) stock
      ∙ ap (λ q. (mapped check rest task.term entries task.previous (with_mapping (Some (own_mapping made.context task.term q)) (draft_of task made))).run stock) (sym is)

  pub meant_not : (iri : List ℕ) → is_compound task.term ≡ false → Same (meant_and_mapped check define rest local task entries iri made) (mapped check rest task.term entries task.previous (draft_of task made))
  meant_not iri e = λ stock.
      ap (λ b. ((if b then first_all define local task.term (marked task.term true made) >>= (λ m. if_means task.term iri (record (draft_of task made) { made = m })) else give (draft_of task made)) >>= mapped check rest task.term entries task.previous).run stock) e
      ∙ given (give (draft_of task made)).run (draft_of task made) (λ d. (mapped check rest task.term entries task.previous d).run) (λ _. refl) stock

  pub meant_at : (iri : List ℕ) (m : Made) → is_compound task.term ≡ true → m ≡ marked task.term true made → Same (meant_and_mapped check define rest local task entries iri made) (first_and_meant check define rest local task entries iri m)
  meant_at iri m e is = λ stock.
      ap (λ b. ((if b then first_all define local task.term (marked task.term true made) >>= (λ m. if_means task.term iri (record (draft_of task made) { made = m })) else give (draft_of task made)) >>= mapped check rest task.term entries task.previous).run stock) e
      ∙ assoc (first_all define local task.term (marked task.term true made)).run (λ n. (if_means task.term iri (draft_of task n)).run) (λ d. (mapped check rest task.term entries task.previous d).run) stock
      ∙ ap (λ n. (first_and_meant check define rest local task entries iri n).run stock) (sym is)

  pub some_then : (o : Answer Draft) → Same (o >>= some_draft >>= mapped_or_ignored check rest task.term entries task.previous made) (o >>= mapped check rest task.term entries task.previous)
  some_then o = alike_trans
      (assoc o.run (λ d. (some_draft d).run) (λ x. (mapped_or_ignored check rest task.term entries task.previous made x).run))
      (alike_then o.run (λ d. (some_draft d >>= mapped_or_ignored check rest task.term entries task.previous made).run) (λ d. (mapped check rest task.term entries task.previous d).run)
      (λ d. given (some_draft d).run (Some d) (λ x. (mapped_or_ignored check rest task.term entries task.previous made x).run) (λ _. refl)))

  pub backed_first : (text : List ℕ) → is_keyword_form text ≡ false → Same (backward_to define rest local task.term entries task.previous (Some text) (draft_of task made)) (first_and_backed check define rest local task entries text made)
  backed_first text e = λ stock. ap (λ b. (if b then ignored task.term made else first_all define local text made >>= (λ m. reversed_to rest task.term entries task.previous (meaning_in m text) (record (draft_of task made) { made = m }))).run stock) e

  pub kept_then : Same (kept_and_mapped check rest task entries made) (mapped check rest task.term entries task.previous (draft_of task made))
  kept_then = given (some_draft (draft_of task made)).run (Some (draft_of task made)) (λ x. (mapped_or_ignored check rest task.term entries task.previous made x).run) (λ _. refl)

  pub same_then : Same (same_and_mapped check define rest local task entries made) (own_and_mapped check define rest local task entries made)
  same_then = some_then (by_own define local task.term (draft_of task made))

  pub text_ignored : (text : List ℕ) → (is_keyword_form text && not (is_keyword text)) ≡ true → Same (text_and_mapped check define rest local task entries text made) (ignored task.term made)
  text_ignored text e = λ stock.
      ap (λ b. ((if b then give None else first_all define local text made >>= (λ m. by_iri define local task.term task.simple (meaning_in m text) (record (draft_of task made) { made = m })) >>= some_draft) >>= mapped_or_ignored check rest task.term entries task.previous made).run stock) e
      ∙ given {A = Mapped} (give {A = Mapped} None).run None (λ x. (mapped_or_ignored check rest task.term entries task.previous made x).run) (λ _. refl) stock

  pub text_named : (text : List ℕ) → (is_keyword_form text && not (is_keyword text)) ≡ false → Same (text_and_mapped check define rest local task entries text made) (first_and_named check define rest local task entries text made)
  text_named text e = λ stock.
      ap (λ b. ((if b then give None else first_all define local text made >>= (λ m. by_iri define local task.term task.simple (meaning_in m text) (record (draft_of task made) { made = m })) >>= some_draft) >>= mapped_or_ignored check rest task.term entries task.previous made).run stock) e
      ∙ some_then (first_all define local text made >>= (λ m. by_iri define local task.term task.simple (meaning_in m text) (draft_of task m))) stock
      ∙ assoc (first_all define local text made).run (λ m. (by_iri define local task.term task.simple (meaning_in m text) (draft_of task m)).run) (λ d. (mapped check rest task.term entries task.previous d).run) stock

  pub forward_none : find entries (codes "@id") ≡ None → Same (forward check define rest local task.term task.simple entries task.previous (draft_of task made)) (own_and_mapped check define rest local task entries made)
  forward_none e = λ stock.
      ap (λ v. (by_id define local task.term task.simple (opened v) (draft_of task made) >>= mapped_or_ignored check rest task.term entries task.previous made).run stock) e
      ∙ some_then (by_own define local task.term (draft_of task made)) stock

  pub typed_first : (text : List ℕ) → Same (first_and_typed check define rest local task entries text made) (first_all define local text made >>= aimed check define rest local task entries Typed text)
  typed_first text = assoc (first_all define local text made).run (λ m. (with_type (meaning_in m text) (draft_of task m)).run) (λ d. (either_way check define rest local task.term task.simple entries task.previous (find entries (codes "@reverse")) d).run)

  pub untyped_then : Same (type_and_rest check define rest local task entries None made) (either_way check define rest local task.term task.simple entries task.previous (find entries (codes "@reverse")) (draft_of task made))
  untyped_then = given (give (draft_of task made)).run (draft_of task made) (λ d. (either_way check define rest local task.term task.simple entries task.previous (find entries (codes "@reverse")) d).run) (λ _. refl)

module _ (check : Check) (define : Define) (rest : terms.Rest) (local : Sorted Tree) (term : List ℕ) (simple : Bool) (entries : Sorted Tree) (previous : Option Def) (made : Made) where
  abbrev pub new_task : Bool → Task
  new_task protected = record { term = term; simple = simple; previous = previous; def = new_def protected }

  abbrev pub drafted_parts : Answer Made
  drafted_parts = protected_in rest.protected (opened (find entries (codes "@protected"))) >>= (λ protected. type_and_rest check define rest local (new_task protected) entries (opened (find entries (codes "@type"))) made)

  pub drafted_in_parts : Same (drafted check define rest local term simple entries previous made) drafted_parts
  drafted_in_parts = assoc (protected_in rest.protected (opened (find entries (codes "@protected")))).run (λ protected. (type_in define local (opened (find entries (codes "@type"))) (record { def = new_def protected; made = made })).run)
      (λ d. (either_way check define rest local term simple entries previous (find entries (codes "@reverse")) d).run)
