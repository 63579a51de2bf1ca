-- What is left of a term definition on the way (JSON-LD 1.1 API, 4.2.2).
use Rattle.std.specs.Prelude.{ℕ, zero, suc, Bool, List, [], ◌∷◌, Option, Some, None, Result, codes}
use Rattle.ld_tree.specs.Names.{Sorted}
use Rattle.ld_tree.specs.Maps.{find}
use Rattle.ld_tree.specs.declared.tree.Tree.{Tree}
use Rattle.ld_tree.specs.declared.tree.Tree.TheOpen.{Tree-F}
use Rattle.ld_ctx.specs.declared.ctx.Ctx.{Ctx}
use Rattle.ld_ctx.specs.Flat.{flat}
use Rattle.ld_rec.specs.Outcome.{Answer, give, as_scoped, ◌>>=◌}
use Rattle.ld_rec.specs.declared.def.Def.{Def}
use Rattle.ld_rec.specs.declared.stop.Stop.{Stop}
use Rattle.ld_term.specs.Comes.{Comes}
use Rattle.ld_rec.specs.Records.{Context, def_of}
use Rattle.ld_rec.specs.Iris.{parts}
use Rattle.ld_rec.specs.Terms as terms
use Rattle.ld_rec.specs.Terms.{Made, Check, Define, Draft, first_of_form, first_all, mapped, with_type, type_in, either_way, reversed_to, by_iri, must_mean, by_text, by_own, by_term, by_id_value, mapped_or_ignored, some_draft, if_means, meaning_in, with_mapping, joined_or}
use Rattle.ld_rec.specs.Terms.{language_unless_typed, without_direction, without_nest, prefix_in, only_known, finished, scoped_in, with_scoped, nested}
use Rattle.ld_rec.specs.Words.{opened}
use Rattle.ld_term.specs.declared.rest.Rest.{Rest}
use Rattle.ld_term.specs.declared.half.Task.{Task}
use Rattle.ld_term.specs.declared.half.Aim.{Aim}
use Rattle.ld_term.specs.declared.half.Aim.TheVariants.{Typed, Backward, Named, Means}
use Rattle.ld_term.specs.declared.half.Wait.{Wait}
use Rattle.ld_term.specs.declared.half.Wait.TheVariants.{Value, Prefix, Own}
use Rattle.ld_term.specs.declared.half.Half.{Half}
use Rattle.ld_term.specs.declared.half.Ready.{Ready}
use Rattle.ld_term.specs.declared.half.Step.{Step}
use Rattle.ld_term.specs.declared.half.Step.TheVariants.{Done, Need, Check as ToCheck}
use Rattle.ld_term.specs.declared.half.Before.{Before}
use Rattle.ld_term.specs.declared.half.Before.TheVariants as before_kind

-- the context that is being made and the table
abbrev pub made_of : Ctx → Sorted Bool → Made
made_of ctx table = record { context = flat ctx; table = table }

abbrev pub rest_of : Rest → terms.Rest
rest_of rest = record { base = rest.base; protected = rest.protected; over = rest.over; remote = rest.remote; validate = rest.validate; depth = rest.depth }

abbrev pub draft_of : Task → Made → Draft
draft_of task made = record { def = task.def; made = made }

-- ---- the end of a definition

-- 22 and 23
abbrev pub spoken : Sorted Tree → Draft → Answer Draft
spoken entries draft = language_unless_typed entries draft >>= without_direction entries

-- 22 to 24
abbrev pub unnested : Sorted Tree → Draft → Answer Draft
unnested entries draft = spoken entries draft >>= without_nest entries

-- 22 to 25
abbrev pub flagged : List ℕ → Sorted Tree → Draft → Answer Draft
flagged term entries draft = unnested entries draft >>= prefix_in term (opened (find entries (codes "@prefix")))

-- 22 to 26
abbrev pub closed : List ℕ → Sorted Tree → Draft → Answer Draft
closed term entries draft = flagged term entries draft >>= only_known entries

-- 22 to 28
abbrev pub closed_and_put : terms.Rest → List ℕ → Sorted Tree → Option Def → Draft → Answer Made
closed_and_put rest term entries previous draft = closed term entries draft >>= finished rest term previous

-- 21 to 28
abbrev pub from_scoped : Check → terms.Rest → List ℕ → Sorted Tree → Option Def → Draft → Answer Made
from_scoped check rest term entries previous draft = scoped_in check rest (find entries (codes "@context")) draft >>= closed_and_put rest term entries previous

-- 21 to 28, where the scoped context is to be checked
abbrev pub from_ready : Check → terms.Rest → Ready → Made → Answer Made
from_ready check rest ready made =
    as_scoped (check made.context ready.scoped)
    >>= (λ _. closed_and_put rest ready.task.term ready.entries ready.task.previous (with_scoped rest ready.scoped (draft_of ready.task made)))

-- ---- a value whose parts are defined first

-- what is left once the value's own names are defined: 12.2 to 28, 13.4 to 13.7, 14.2.3 to 28, and 14.2.4.2 to 28
abbrev pub aimed : Check → Define → terms.Rest → Sorted Tree → Task → Sorted Tree → Aim → List ℕ → Made → Answer Made
aimed check define rest local task entries Typed value made =
    with_type (meaning_in made value) (draft_of task made)
    >>= either_way check define rest local task.term task.simple entries task.previous (find entries (codes "@reverse"))
aimed check define rest local task entries Backward value made = reversed_to rest task.term entries task.previous (meaning_in made value) (draft_of task made)
aimed check define rest local task entries Named value made =
    by_iri define local task.term task.simple (meaning_in made value) (draft_of task made) >>= mapped check rest task.term entries task.previous
aimed check define rest local task entries (Means iri) value made = if_means task.term iri (draft_of task made) >>= mapped check rest task.term entries task.previous

-- 15.2 and 15.3
abbrev pub own_mapping : Context → List ℕ → Option (List ℕ × List ℕ) → List ℕ
own_mapping context term (Some p) = joined_or term p.1 (def_of context p.0)
own_mapping context term None = term

abbrev pub from_own : Check → terms.Rest → Task → Sorted Tree → Made → Answer Made
from_own check rest task entries made =
    mapped check rest task.term entries task.previous (with_mapping (Some (own_mapping made.context task.term (parts task.term))) (draft_of task made))

-- 15 to 28
abbrev pub own_and_mapped : Check → Define → terms.Rest → Sorted Tree → Task → Sorted Tree → Made → Answer Made
own_and_mapped check define rest local task entries made = by_own define local task.term (draft_of task made) >>= mapped check rest task.term entries task.previous

-- 16 to 28
abbrev pub term_and_mapped : Check → terms.Rest → Task → Sorted Tree → Made → Answer Made
term_and_mapped check rest task entries made = by_term task.term (draft_of task made) >>= mapped check rest task.term entries task.previous

-- 14.2.3 to 28
abbrev pub iri_and_mapped : Check → Define → terms.Rest → Sorted Tree → Task → Sorted Tree → Option (List ℕ) → Made → Answer Made
iri_and_mapped check define rest local task entries iri made =
    by_iri define local task.term task.simple iri (draft_of task made) >>= mapped check rest task.term entries task.previous

-- 14.2.4 to 28
abbrev pub meant_and_mapped : Check → Define → terms.Rest → Sorted Tree → Task → Sorted Tree → List ℕ → Made → Answer Made
meant_and_mapped check define rest local task entries iri made =
    must_mean define local task.term iri (draft_of task made) >>= mapped check rest task.term entries task.previous

-- 14.2.4.1 to 28, where the table has the term
abbrev pub first_and_meant : Check → Define → terms.Rest → Sorted Tree → Task → Sorted Tree → List ℕ → Made → Answer Made
first_and_meant check define rest local task entries iri made =
    first_all define local task.term made >>= aimed check define rest local task entries (Means iri) task.term

-- 14.2.2 to 28, where the value hasn't only the form of a keyword
abbrev pub first_and_named : Check → Define → terms.Rest → Sorted Tree → Task → Sorted Tree → List ℕ → Made → Answer Made
first_and_named check define rest local task entries value made = first_all define local value made >>= aimed check define rest local task entries Named value

-- 14.2.2 to 28
abbrev pub text_and_mapped : Check → Define → terms.Rest → Sorted Tree → Task → Sorted Tree → List ℕ → Made → Answer Made
text_and_mapped check define rest local task entries value made =
    by_text define local task.term task.simple value (draft_of task made) >>= mapped_or_ignored check rest task.term entries task.previous made

-- 14.1 and 19 to 28
abbrev pub kept_and_mapped : Check → terms.Rest → Task → Sorted Tree → Made → Answer Made
kept_and_mapped check rest task entries made = some_draft (draft_of task made) >>= mapped_or_ignored check rest task.term entries task.previous made

-- 15 to 28, of an @id that is the term
abbrev pub same_and_mapped : Check → Define → terms.Rest → Sorted Tree → Task → Sorted Tree → Made → Answer Made
same_and_mapped check define rest local task entries made =
    by_own define local task.term (draft_of task made) >>= some_draft >>= mapped_or_ignored check rest task.term entries task.previous made

-- 14 to 28
abbrev pub value_and_mapped : Check → Define → terms.Rest → Sorted Tree → Task → Sorted Tree → Tree-F Tree → Made → Answer Made
value_and_mapped check define rest local task entries value made =
    by_id_value define local task.term task.simple value (draft_of task made) >>= mapped_or_ignored check rest task.term entries task.previous made

-- 13.4 to 13.7
abbrev pub first_and_backed : Check → Define → terms.Rest → Sorted Tree → Task → Sorted Tree → List ℕ → Made → Answer Made
first_and_backed check define rest local task entries value made = first_all define local value made >>= aimed check define rest local task entries Backward value

-- 12.2 to 28
abbrev pub first_and_typed : Check → Define → terms.Rest → Sorted Tree → Task → Sorted Tree → List ℕ → Made → Answer Made
first_and_typed check define rest local task entries value made =
    first_all define local value made >>= (λ m. with_type (meaning_in m value) (draft_of task m))
    >>= either_way check define rest local task.term task.simple entries task.previous (find entries (codes "@reverse"))

-- 12 to 28
abbrev pub type_and_rest : Check → Define → terms.Rest → Sorted Tree → Task → Sorted Tree → Option (Tree-F Tree) → Made → Answer Made
type_and_rest check define rest local task entries value made =
    type_in define local value (draft_of task made) >>= either_way check define rest local task.term task.simple entries task.previous (find entries (codes "@reverse"))

-- what is left once the name is defined that a half-made definition waits for
abbrev pub from_wait : Check → Define → terms.Rest → Sorted Tree → Task → Sorted Tree → Wait → Made → Answer Made
from_wait check define rest local task entries (Value aim value) made = first_of_form define local value made >>= aimed check define rest local task entries aim value
from_wait check define rest local task entries (Prefix aim value) made = aimed check define rest local task entries aim value made
from_wait check define rest local task entries Own made = from_own check rest task entries made

abbrev pub from_half : Check → Define → terms.Rest → Sorted Tree → Half → Made → Answer Made
from_half check define rest local half made = from_wait check define rest local half.task half.entries half.wait made

-- what is left after a step
abbrev pub from_step : Check → Define → terms.Rest → Sorted Tree → Step → Made → Answer Made
from_step check define rest local Done made = give made
from_step check define rest local (Need half name) made = define name made >>= from_half check define rest local half
from_step check define rest local (ToCheck ready) made = from_ready check rest ready made

-- what a call that gives a step gives is what the definition gives
abbrev pub Goes : Check → Define → terms.Rest → Sorted Tree → Made → Result Step Stop → Answer Made → Type 0
Goes check define rest local made r o = Comes (λ step. from_step check define rest local step made) r o

-- 5.2.2, 3 to 6.3: what is defined before a value is looked at
abbrev pub first_by : Define → Sorted Tree → List ℕ → Option Before → Made → Answer Made
first_by define local value None made = give made
first_by define local value (Some before_kind.Itself) made = define value made >>= first_of_form define local value
first_by define local value (Some (before_kind.Prefix name)) made = define name made

-- 6.3: the prefix of a value
abbrev pub first_named : Define → Option (List ℕ) → Made → Answer Made
first_named define (Some name) made = define name made
first_named define None made = give made

-- what is left of an expansion, and of the definition after it
abbrev pub first_and_aimed : Check → Define → terms.Rest → Sorted Tree → Task → Sorted Tree → Aim → List ℕ → Option Before → Made → Answer Made
first_and_aimed check define rest local task entries aim value before made =
    first_by define local value before made >>= aimed check define rest local task entries aim value

-- ---- definitions that wait for one another

abbrev pub before : ℕ → ℕ
before zero = zero
before (suc n) = n

-- what is left after a step with half-made definitions waiting, the outermost first
abbrev pub from_stack : Check → terms.Rest → Sorted Tree → ℕ → List Half → Step → Made → Answer Made
from_stack check rest local room [] step made = from_step check (nested check rest local room) rest local step made
from_stack check rest local room (half ∷ halves) step made =
    from_stack check rest local (before room) halves step made >>= from_half check (nested check rest local room) rest local half
