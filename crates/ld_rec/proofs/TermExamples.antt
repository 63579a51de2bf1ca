-- Term definitions (JSON-LD 1.1 API, 4.2.2), computed by the definitions.
use Rattle.std.proofs.Common.{◌≡◌, refl, ℕ, List, [], ◌∷◌, Option, Some, None, Ok, Err, true, false, Bool}
use Rattle.std.specs.Prelude.{codes, Result, fold}
use Rattle.std.specs.Str.{chars}
use Rattle.ld_codes.specs.declared.code.Code.TheVariants as code
use Rattle.ld_codes.specs.Keywords.{is_keyword}
use Rattle.ld_iri.specs.Components.{parts as components}
use Rattle.ld_iri.specs.Resolution.{resolved, target}
use Rattle.ld_tree.specs.Names.{Sorted}
use Rattle.ld_tree.specs.declared.tree.Tree.{Tree, out-Tree}
use Rattle.ld_tree.specs.declared.tree.Tree.TheOpen.{Tree-F}
use Rattle.ld_tree.specs.declared.tree.Tree.TheViews.{roll-Tree}
use Rattle.ld_tree.specs.Maps.{put, empty as no_entries}
use Rattle.ld_rec.specs.declared.def.Def.{Def}
use Rattle.ld_rec.specs.declared.stop.Stop.{Stop}
use Rattle.ld_rec.specs.declared.stop.Stop.TheVariants as stop
use Rattle.ld_rec.specs.Iris.{parts, iri_of}
use Rattle.ld_rec.specs.Outcome.{give}
use Rattle.ld_rec.specs.Records.{fresh, def_of, new_def, no_containers}
use Rattle.ld_rec.specs.Terms.{nested, Rest, Check, Made, drafted, defined}
use Rattle.ld_rec.specs.Processing.{Ask, Progress, by_map}

abbrev text : List ℕ → Tree
text t = roll-Tree (Tree-F.Text t)

abbrev null : Tree
null = roll-Tree Tree-F.Null

abbrev yes : Tree
yes = roll-Tree (Tree-F.Bool true)

abbrev with_entry : Sorted Tree → List ℕ × Tree → Sorted Tree
with_entry entries e = put entries e.0 e.1

abbrev entries_of : List (List ℕ × Tree) → Sorted Tree
entries_of es = fold with_entry no_entries es

-- ---- what a term of a local context means, over a new context

abbrev ask : Ask
ask = record { active = fresh None; local = null; base = None; remote = []; over = false; propagate = true; validate = true; depth = 1 }

abbrev in_progress : Result Progress Stop → List ℕ → Result (Option Def) Stop
in_progress (Ok progress) term = Ok (def_of progress.context term)
in_progress (Err e) term = Err e

-- no scoped context is asked for here
abbrev by_context : List (List ℕ × Tree) → List ℕ → Result (Option Def) Stop
by_context local term = in_progress ((by_map (λ inner. give inner.active) ask (record { context = fresh None; remote = [] }) (entries_of local)).run no_entries).result term

abbrev simple : List ℕ → Def
simple iri = record (new_def false) { mapping = Some iri }

-- 14.2.4: a term with a slash means its IRI by itself: {"@vocab": "http://e/", "a/b": "http://e/a/b"}
a_path_by_vocab : by_context ((codes "@vocab", text (codes "http://e/")) ∷ (codes "a/b", text (codes "http://e/a/b")) ∷ []) (codes "a/b") ≡ Ok (Some (simple (codes "http://e/a/b")))
unfolding nested chars parts iri_of is_keyword components resolved target out-Tree denote.Hole.Carrier.out roll-Tree denote.Hole.Carrier.roll
a_path_by_vocab = refl

-- 14.2.4.2: or fails: {"@vocab": "http://e/", "a/b": "http://e/c"}
a_path_elsewhere : by_context ((codes "@vocab", text (codes "http://e/")) ∷ (codes "a/b", text (codes "http://e/c")) ∷ []) (codes "a/b") ≡ Err (stop.Code code.InvalidIriMapping)
unfolding nested chars parts iri_of is_keyword components resolved target out-Tree denote.Hole.Carrier.out roll-Tree denote.Hole.Carrier.roll
a_path_elsewhere = refl

-- 14.2.2: ignored: {"n": "@foo"}
like_a_keyword : by_context ((codes "n", text (codes "@foo")) ∷ []) (codes "n") ≡ Ok None
unfolding nested chars parts iri_of is_keyword components resolved target out-Tree denote.Hole.Carrier.out roll-Tree denote.Hole.Carrier.roll
like_a_keyword = refl

-- 15.1 and 2: the empty prefix is a term of the local context, and no term is empty: {"": "http://e/", ":a:b": ":a:b"}
no_prefix : by_context ((codes "", text (codes "http://e/")) ∷ (codes ":a:b", text (codes ":a:b")) ∷ []) (codes ":a:b") ≡ Err (stop.Code code.InvalidTermDefinition)
unfolding nested chars parts iri_of is_keyword components resolved target out-Tree denote.Hole.Carrier.out roll-Tree denote.Hole.Carrier.roll
no_prefix = refl

-- 5.2.2, 4: a term whose mapping is a keyword: {"type": "@type", "a": "type"}
by_alias : by_context ((codes "type", text (codes "@type")) ∷ (codes "a", text (codes "type")) ∷ []) (codes "a") ≡ Ok (Some (simple (codes "@type")))
unfolding nested chars parts iri_of is_keyword components resolved target out-Tree denote.Hole.Carrier.out roll-Tree denote.Hole.Carrier.roll
by_alias = refl

-- 14.2.3: but not for @context: {"c": "@context"}
for_context : by_context ((codes "c", text (codes "@context")) ∷ []) (codes "c") ≡ Err (stop.Code code.InvalidKeywordAlias)
unfolding nested chars parts iri_of is_keyword components resolved target out-Tree denote.Hole.Carrier.out roll-Tree denote.Hole.Carrier.roll
for_context = refl

-- ---- what a definition of its own entries is, over a new context

abbrev rest : Rest
rest = record { base = None; protected = false; over = false; remote = []; validate = true; depth = 1 }

abbrev no_check : Check
no_check context local = give context

abbrev in_made : Result Made Stop → List ℕ → Result (Option Def) Stop
in_made (Ok made) term = Ok (def_of made.context term)
in_made (Err e) term = Err e

abbrev by_draft : Bool → List ℕ → List (List ℕ × Tree) → Result (Option Def) Stop
by_draft is_simple term es =
    in_made ((drafted no_check (defined no_check rest no_entries) rest no_entries term is_simple (entries_of es) None (record { context = fresh None; table = no_entries })).run no_entries).result term

abbrev plain : Def
plain = simple (codes "http://e/p")

-- 19.4.1: {"@id": "http://e/p", "@container": "@type"}
typed_by_container : by_draft false (codes "t") ((codes "@id", text (codes "http://e/p")) ∷ (codes "@container", text (codes "@type")) ∷ []) ≡ Ok (Some (record plain { typed = Some (codes "@id"); containers = record no_containers { types = true } }))
unfolding nested chars parts iri_of is_keyword components resolved target out-Tree denote.Hole.Carrier.out roll-Tree denote.Hole.Carrier.roll
typed_by_container = refl

-- 19.4.2: {"@id": "http://e/p", "@container": "@type", "@type": "@json"}
typed_otherwise : by_draft false (codes "t") ((codes "@id", text (codes "http://e/p")) ∷ (codes "@container", text (codes "@type")) ∷ (codes "@type", text (codes "@json")) ∷ []) ≡ Err (stop.Code code.InvalidTypeMapping)
unfolding nested chars parts iri_of is_keyword components resolved target out-Tree denote.Hole.Carrier.out roll-Tree denote.Hole.Carrier.roll
typed_otherwise = refl

-- 13: other entries of a reverse property are not looked at: {"@reverse": "http://e/p", "@container": "@set", "x": null}
reversed : by_draft false (codes "t") ((codes "@reverse", text (codes "http://e/p")) ∷ (codes "@container", text (codes "@set")) ∷ (codes "x", null) ∷ []) ≡ Ok (Some (record plain { reverse = true; containers = record no_containers { set = true } }))
unfolding nested chars parts iri_of is_keyword components resolved target out-Tree denote.Hole.Carrier.out roll-Tree denote.Hole.Carrier.roll
reversed = refl

-- 13.1: {"@id": "http://e/p", "@reverse": "http://e/q"}
both_ways : by_draft false (codes "t") ((codes "@id", text (codes "http://e/p")) ∷ (codes "@reverse", text (codes "http://e/q")) ∷ []) ≡ Err (stop.Code code.InvalidReverseProperty)
unfolding nested chars parts iri_of is_keyword components resolved target out-Tree denote.Hole.Carrier.out roll-Tree denote.Hole.Carrier.roll
both_ways = refl

-- 26: {"@id": "http://e/p", "x": null}
unknown_entry : by_draft false (codes "t") ((codes "@id", text (codes "http://e/p")) ∷ (codes "x", null) ∷ []) ≡ Err (stop.Code code.InvalidTermDefinition)
unfolding nested chars parts iri_of is_keyword components resolved target out-Tree denote.Hole.Carrier.out roll-Tree denote.Hole.Carrier.roll
unknown_entry = refl

-- 25.3: {"@id": "@type", "@prefix": true}
keyword_as_prefix : by_draft false (codes "t") ((codes "@id", text (codes "@type")) ∷ (codes "@prefix", yes) ∷ []) ≡ Err (stop.Code code.InvalidTermDefinition)
unfolding nested chars parts iri_of is_keyword components resolved target out-Tree denote.Hole.Carrier.out roll-Tree denote.Hole.Carrier.roll
keyword_as_prefix = refl

-- 14.2.5: a simple term whose IRI ends in a gen-delim: {"@id": "http://e/"}
may_be_prefix : by_draft true (codes "t") ((codes "@id", text (codes "http://e/")) ∷ []) ≡ Ok (Some (record (simple (codes "http://e/")) { prefix = true }))
unfolding nested chars parts iri_of is_keyword components resolved target out-Tree denote.Hole.Carrier.out roll-Tree denote.Hole.Carrier.roll
may_be_prefix = refl

-- and one that is not simple: {"@id": "http://e/"}
may_be_no_prefix : by_draft false (codes "t") ((codes "@id", text (codes "http://e/")) ∷ []) ≡ Ok (Some (simple (codes "http://e/")))
unfolding nested chars parts iri_of is_keyword components resolved target out-Tree denote.Hole.Carrier.out roll-Tree denote.Hole.Carrier.roll
may_be_no_prefix = refl

-- 22: {"@id": "http://e/p", "@language": "EN"}
in_lower_case : by_draft false (codes "t") ((codes "@id", text (codes "http://e/p")) ∷ (codes "@language", text (codes "EN")) ∷ []) ≡ Ok (Some (record plain { language = Some (Some (codes "en")) }))
unfolding nested chars parts iri_of is_keyword components resolved target out-Tree denote.Hole.Carrier.out roll-Tree denote.Hole.Carrier.roll
in_lower_case = refl

-- 14.1: {"@id": null}
means_nothing : by_draft false (codes "t") ((codes "@id", null) ∷ []) ≡ Ok (Some (new_def false))
unfolding nested chars parts iri_of is_keyword components resolved target out-Tree denote.Hole.Carrier.out roll-Tree denote.Hole.Carrier.roll
means_nothing = refl

-- 15.3, of the term `_:p`: {}
means_itself : by_draft false (codes "_:p") [] ≡ Ok (Some (simple (codes "_:p")))
unfolding nested chars parts iri_of is_keyword components resolved target out-Tree denote.Hole.Carrier.out roll-Tree denote.Hole.Carrier.roll
means_itself = refl

-- 18, without a vocabulary mapping: {}
no_vocabulary : by_draft false (codes "t") [] ≡ Err (stop.Code code.InvalidIriMapping)
unfolding nested chars parts iri_of is_keyword components resolved target out-Tree denote.Hole.Carrier.out roll-Tree denote.Hole.Carrier.roll
no_vocabulary = refl
