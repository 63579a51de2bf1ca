-- Small contexts, computed by the definitions.
use Rattle.std.proofs.Common.{◌≡◌, refl, ℕ, Bool, List, [], Option, Some, None, Ok, Err, true, false}
use Rattle.std.specs.Prelude.{codes, Result}
use Rattle.std.specs.Str.{chars}
use Rattle.ld_codes.specs.declared.code.Code.TheVariants as code
use Rattle.ld_codes.specs.Keywords.{is_keyword}
use Rattle.ld_iri.specs.Components.{parts as components}
use Rattle.ld_tree.specs.Names.{Sorted}
use Rattle.ld_tree.specs.declared.tree.Tree.{Tree, out-Tree}
use Rattle.ld_tree.specs.declared.tree.Tree.TheOpen.{Tree-F}
use Rattle.ld_tree.specs.declared.tree.Tree.TheViews.{roll-Tree}
use Rattle.ld_rec.specs.declared.stop.Stop.{Stop}
use Rattle.ld_rec.specs.declared.stop.Stop.TheVariants as stop
use Rattle.ld_rec.specs.Iris.{parts, iri_of}
use Rattle.ld_tree.specs.Maps.{put, empty as no_entries}
use Rattle.ld_rec.specs.Outcome.{give}
use Rattle.ld_rec.specs.Records.{fresh, def_of}
use Rattle.ld_rec.specs.Terms.{Made, Rest, Check, defined, nested}

text : List ℕ → Tree
text t = roll-Tree (Tree-F.Text t)

empty : Made
empty = record { context = fresh None; table = no_entries }

top : Rest
top = record { base = None; protected = false; over = false; remote = []; validate = true; depth = 1 }

no_check : Check
no_check context local = give context

definition : Sorted Tree → List ℕ → Result Made Stop
definition local term = ((defined no_check top local term empty).run no_entries).result

mapping_of : Result Made Stop → List ℕ → Option (Option (List ℕ))
mapping_of (Ok made) term = elim (def_of made.context term) [ Some d ↦ Some d.mapping | None ↦ None ]
mapping_of (Err e) term = None

-- {"a": "p:x", "p": "u:v/"}
prefixes : Sorted Tree
unfolding text
prefixes = put (put no_entries (codes "p") (text (codes "u:v/"))) (codes "a") (text (codes "p:x"))

by_prefix_first : mapping_of (definition prefixes (codes "a")) (codes "a") ≡ Some (Some (codes "u:v/x"))
unfolding mapping_of definition prefixes empty top text no_check nested chars parts iri_of is_keyword components out-Tree denote.Hole.Carrier.out roll-Tree denote.Hole.Carrier.roll
by_prefix_first = refl

-- {"a": "b:x", "b": "a:y"}
ring : Sorted Tree
unfolding text
ring = put (put no_entries (codes "a") (text (codes "b:x"))) (codes "b") (text (codes "a:y"))

cyclic : definition ring (codes "a") ≡ Err (stop.Code code.CyclicIriMapping)
unfolding definition ring empty top text no_check nested parts iri_of is_keyword components out-Tree denote.Hole.Carrier.out roll-Tree denote.Hole.Carrier.roll
cyclic = refl

-- {"n": "http://e/n"}, and the same with another IRI
one_term : List ℕ → List ℕ → Sorted Tree
unfolding text
one_term term iri = put no_entries term (text iri)

with_term : Bool → List ℕ → List ℕ → Made → Result Made Stop
with_term protected term iri made = ((defined no_check (record top { protected = protected }) (one_term term iri) term (record made { table = no_entries })).run no_entries).result

then : Result Made Stop → (Made → Result Made Stop) → Result Made Stop
then (Ok made) f = f made
then (Err e) f = Err e

protected_again : then (with_term true (codes "n") (codes "http://e/n") empty) (with_term false (codes "n") (codes "http://e/m")) ≡ Err (stop.Code code.ProtectedTermRedefinition)
unfolding then with_term one_term empty top text no_check nested chars parts iri_of is_keyword components out-Tree denote.Hole.Carrier.out roll-Tree denote.Hole.Carrier.roll
protected_again = refl

no_keyword : with_term false (codes "@id") (codes "http://e/n") empty ≡ Err (stop.Code code.KeywordRedefinition)
unfolding with_term one_term empty top text no_check nested chars parts iri_of is_keyword components out-Tree denote.Hole.Carrier.out roll-Tree denote.Hole.Carrier.roll
no_keyword = refl
