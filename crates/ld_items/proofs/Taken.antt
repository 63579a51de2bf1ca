-- Bytes that came, and those of them that were taken.
use Rattle.std.proofs.Common.{◌≡◌, ◌∙◌, ℕ, false, List, [], ◌++◌, take, drop, refl, sym, ap, subst, append_assoc, append-nil}
use Rattle.std.proofs.lemmas.List.{take-append-drop}
use Rattle.ld_edge.specs.Passing.{Comes}
use Rattle.ld_edge.specs.Sides.{Incoming}
use Rattle.ld_edge.proofs.Known.{comes_none, comes_then}
use Rattle.ld_head.specs.declared.coming.Came.TheVariants as came
use Rattle.ld_head.specs.declared.dialogue.Ending.{Ending}
use Rattle.ld_head.specs.Dialogues.{Whole, front, is_due_at, OpensAt, Opens, Shuts, Stops, bad}
use Rattle.ld_head.specs.Heads.{Refuses}
use Rattle.ld_head.specs.Pieces as pieces
use Rattle.ld_items.specs.Parts.{Heads, ToldBy}
use Rattle.ld_items.specs.declared.heading.Heading.{Heading}
use Rattle.ld_items.specs.declared.heading.Heading.TheVariants as heading

-- Of the bytes that were pending before, and those that came, these were taken, and the others are pending after.
pub record Took (source source' : Incoming) (before taken after : List ℕ) : Type 0 where
  pub came : List ℕ
  pub comes : Comes source source' came
  pub is : before ++ came ≡ taken ++ after

pub took_none : (source : Incoming) (before : List ℕ) → Took source source before [] before
took_none source before = record { came = []; comes = comes_none source source refl refl; is = append-nil before }

-- more came
pub took_more : (a b c : Incoming) (before taken after later : List ℕ) → Took a b before taken after
    → (came : List ℕ) → Comes b c came → later ≡ after ++ came → Took a c before taken later
took_more a b c before taken after later h came comes is = record {
  came = h.came ++ came;
  comes = comes_then a b c h.came came h.comes comes;
  is = sym (append_assoc before h.came came) ∙ ap (λ l. l ++ came) h.is ∙ append_assoc taken after came ∙ ap (λ l. taken ++ l) (sym is);
}

-- more was taken
pub took_on : (a b : Incoming) (before taken part rest : List ℕ) → Took a b before taken (part ++ rest) → Took a b before (taken ++ part) rest
took_on a b before taken part rest h = record { came = h.came; comes = h.comes; is = h.is ∙ sym (append_assoc taken part rest) }

-- ---- a head

abbrev HeadTook : Incoming → Incoming → (before after : List ℕ) → Heading → Type 0
HeadTook source source' before after result = (came : List ℕ) × Comes source source' came × Heads (before ++ came) after result

module _ (a b : Incoming) (before seen pending : List ℕ) (h : Took a b before seen pending) where
  -- the bytes that came, where others come after them
  regrouped : (more : List ℕ) → (before ++ h.came) ++ more ≡ seen ++ (pending ++ more)
  regrouped more = ap (λ l. l ++ more) h.is ∙ append_assoc seen pending more

  all_seen : pending ≡ [] → before ++ h.came ≡ seen
  all_seen none = h.is ∙ ap (λ l. seen ++ l) none ∙ append-nil seen

  pub head_ended : (after : List ℕ) (ending : Ending) → pending ≡ [] → ((n : ℕ) → Opens n seen (Stops ending)) → is_due_at ending ≡ false → HeadTook a b before after (heading.Ended ending)
  head_ended after ending none stops silent = (h.came, h.comes, ((λ n. subst (λ bytes. Opens n bytes (Stops ending)) (sym (all_seen none)) (stops n)), silent))

  pub head_failed : (after : List ℕ) (ending : Ending) → pending ≡ [] → ((n : ℕ) → Opens n seen (Stops ending)) → is_due_at ending ≡ false → HeadTook a b before after (heading.Fault ending)
  head_failed after ending none stops silent = (h.came, h.comes, ((λ n. subst (λ bytes. Opens n bytes (Stops ending)) (sym (all_seen none)) (stops n)), silent))

  pub head_too_long : (after piece : List ℕ) → piece ≡ pending → pieces.Comes seen piece came.TooLong → HeadTook a b before after (heading.Bad 431 false)
  head_too_long after piece same long =
      (h.came, h.comes, λ n more. subst (λ f. OpensAt n f (Shuts (bad 431 false))) (sym (ap front (regrouped more ∙ ap (λ l. seen ++ (l ++ more)) (sym same)) ∙ long more)) refl)

  heads_told : (after block : List ℕ) → ((more : List ℕ) → front ((before ++ h.came) ++ more) ≡ Whole block (after ++ more)) → (result : Heading) → ToldBy block result → Heads (before ++ h.came) after result
  heads_told after block begins (heading.Whole head) told = (block, told, begins)
  heads_told after block begins (heading.Bad status was_head) told = λ n more. subst (λ f. OpensAt n f (Shuts (bad status was_head))) (sym (begins more)) (Refuses status was_head, told, refl)
  heads_told after block begins heading.NoMemory told = tt
  heads_told after block begins (heading.Ended ending) told = absurd told
  heads_told after block begins (heading.Fault ending) told = absurd told

  pub head_whole : (after piece block own : List ℕ) (used : ℕ) (result : Heading) → piece ≡ pending → ((more : List ℕ) → front (seen ++ (piece ++ more)) ≡ Whole block (drop used piece ++ more))
      → after ≡ drop used pending → own ≡ block → ToldBy own result → HeadTook a b before after result
  head_whole after piece block own used result same begins is own_is told = (
    h.came,
    h.comes,
    heads_told after block (λ more. ap front (regrouped more ∙ ap (λ l. seen ++ (l ++ more)) (sym same)) ∙ begins more ∙ ap (λ l. Whole block (l ++ more)) (ap (drop used) same ∙ sym is)) result
        (subst (λ l. ToldBy l result) own_is told),
  )

  pub head_unknown : (after : List ℕ) → HeadTook a b before after heading.NoMemory
  head_unknown after = (h.came, h.comes, tt)

  -- the head goes on
  pub head_more : (piece more rest : List ℕ) → piece ≡ pending → more ≡ seen ++ piece → rest ≡ [] → Took a b before more rest
  head_more piece more rest same is none = record {
    came = h.came;
    comes = h.comes;
    is = h.is ∙ ap (λ l. seen ++ l) (sym same) ∙ sym is ∙ sym (append-nil more) ∙ ap (λ l. more ++ l) (sym none);
  }

-- ---- a body

-- a part of what is pending was taken
pub took_part : (a b : Incoming) (before taken after more rest : List ℕ) (count : ℕ) → Took a b before taken after → more ≡ taken ++ take count after → rest ≡ drop count after → Took a b before more rest
took_part a b before taken after more rest count h more_is rest_is = record {
  came = h.came;
  comes = h.comes;
  is = h.is ∙ ap (λ l. taken ++ l) (sym (take-append-drop count after)) ∙ sym (append_assoc taken (take count after) (drop count after)) ∙ (λ i. sym more_is i ++ sym rest_is i);
}
