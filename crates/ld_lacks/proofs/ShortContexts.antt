-- That context processing asks for nothing but under short IRIs.
use Rattle.std.proofs.Common.{◌≡◌, ℕ, ◌≤◌, zero, suc, ◌-◌, ◌+◌, refl, Bool, true, false, List, [], ◌∷◌, ◌++◌, length, Option, Some, None}
use Rattle.std.specs.Prelude.{nat_le, not, if◌then◌else◌, ◌&&◌, codes}
use Rattle.std.proofs.lemmas.Bool.{leb-true}
use Rattle.ld_iri.specs.Words.{is_iri}
use Rattle.ld_tree.specs.Maps.{find, empty}
use Rattle.ld_tree.specs.Names.{Sorted}
use Rattle.ld_tree.specs.Trees.{member}
use Rattle.ld_tree.specs.declared.tree.Num.TheVariants.{OneOne}
use Rattle.ld_tree.specs.declared.tree.Tree.{Tree, out-Tree}
use Rattle.ld_tree.specs.declared.tree.Tree.TheOpen.{Tree-F}
use Rattle.ld_rec.specs.declared.doc.Doc.{Doc}
use Rattle.ld_rec.specs.declared.stored.Stored.{Stored}
use Rattle.ld_rec.specs.declared.stored.Stored.TheVariants.{Read}
use Rattle.ld_rec.specs.Iris.{iri_of}
use Rattle.ld_rec.specs.Processing.{Ask, Again, Progress, levels, iri_limit, within_limit, anew, nullified, against, loadable, context_in, remote_ask, dereferenced, by_remote, version_in, imported_in, imported_from, by_import, import_in, relative_base, base_in, base_unless_remote, by_vocab_iri, vocab_in, default_language_in, propagate_in, protected_in, keywords_in, check_by, unless_keyword, rest_of, scoped_ask, terms_in, by_entries, by_map, is_propagated, begun, by_item, item_step, process_step, processed_in, process}
use Rattle.ld_rec.specs.Records.{Context, has_protected}
use Rattle.ld_rec.specs.Terms.{Made, Rest}
use Rattle.ld_rec.specs.Words.{items_of, opened}
use Rattle.ld_lacks.proofs.Short.{AsksShort, giving, failing, declining, when, asking, counting, next, each_short}
use Rattle.ld_lacks.proofs.ShortTerms.{defined_short}

-- ---- what can be asked for

abbrev IsShort : Option (List ℕ) → Type 0
IsShort None = Unit {0}
IsShort (Some iri) = length iri ≤ 2048

second : (a b : Bool) → (a && b) ≡ true → b ≡ true
second true b h = h
second false b h = absurd (cc)

loadable_short : (iri : List ℕ) → IsShort (loadable iri)
loadable_short iri = if_so (is_iri iri && nat_le (length iri) iri_limit) refl
  where
    if_so : (test : Bool) → (is_iri iri && nat_le (length iri) iri_limit) ≡ test → IsShort (if test then Some iri else None)
    if_so true e = leb-true _ _ (second (is_iri iri) _ e)
    if_so false e = tt

-- ---- what asks for nothing

context_in_short : (doc : Doc) (body : Stored) → AsksShort (context_in doc body)
context_in_short doc (Read text tree) = go (member (codes "@context") tree) refl
  where
    go : (local : Option Tree) → member (codes "@context") tree ≡ local → AsksShort (context_in doc (Read text tree))
    go (Some local) e = rw e giving
    go None e = rw e failing
context_in_short doc _ = failing

within_limit_short : (context : Context) → AsksShort (within_limit context)
within_limit_short context = when _ giving declining

nullified_short : (base : Option (List ℕ)) (over propagate : Bool) (context : Context) → AsksShort (nullified base over propagate context)
nullified_short base over propagate context = when (not over && has_protected context) failing (within_limit_short (anew base propagate context))

version_in_short : (value : Option (Tree-F Tree)) → AsksShort (version_in value)
version_in_short None = giving
version_in_short (Some (Tree-F.Num OneOne)) = giving
version_in_short (Some _) = failing

imported_in_short : (entries : Sorted Tree) (value : Tree-F Tree) → AsksShort (imported_in entries value)
imported_in_short entries (Tree-F.Map imported) = when _ failing giving
imported_in_short entries _ = failing

relative_base_short : (context : Context) (text : List ℕ) (base : Option (List ℕ)) → AsksShort (relative_base context text base)
relative_base_short context text (Some base) = when _ giving failing
relative_base_short context text None = failing

base_in_short : (value : Option (Tree-F Tree)) (context : Context) → AsksShort (base_in value context)
base_in_short None context = giving
base_in_short (Some Tree-F.Null) context = giving
base_in_short (Some (Tree-F.Text text)) context = when _ giving (relative_base_short context text context.own.base)
base_in_short (Some _) context = failing

base_unless_remote_short : (remote : List (List ℕ)) (value : Option (Tree-F Tree)) (context : Context) → AsksShort (base_unless_remote remote value context)
base_unless_remote_short [] value context = base_in_short value context
base_unless_remote_short (iri ∷ iris) value context = giving

by_vocab_iri_short : (iri : Option (List ℕ)) (context : Context) → AsksShort (by_vocab_iri iri context)
by_vocab_iri_short None context = failing
by_vocab_iri_short (Some iri) context = when _ giving failing

vocab_in_short : (value : Option (Tree-F Tree)) (context : Context) → AsksShort (vocab_in value context)
vocab_in_short None context = giving
vocab_in_short (Some Tree-F.Null) context = giving
vocab_in_short (Some (Tree-F.Text text)) context = by_vocab_iri_short (iri_of context text true true) context
vocab_in_short (Some _) context = failing

default_language_in_short : (value : Option (Tree-F Tree)) (context : Context) → AsksShort (default_language_in value context)
default_language_in_short None context = giving
default_language_in_short (Some Tree-F.Null) context = giving
default_language_in_short (Some (Tree-F.Text tag)) context = giving
default_language_in_short (Some _) context = failing

propagate_in_short : (value : Option (Tree-F Tree)) (context : Context) → AsksShort (propagate_in value context)
propagate_in_short None context = giving
propagate_in_short (Some (Tree-F.Bool b)) context = giving
propagate_in_short (Some _) context = failing

protected_in_short : (value : Option (Tree-F Tree)) → AsksShort (protected_in value)
protected_in_short None = giving
protected_in_short (Some (Tree-F.Bool b)) = giving
protected_in_short (Some _) = failing

keywords_in_short : (remote : List (List ℕ)) (entries : Sorted Tree) (context : Context) → AsksShort (keywords_in remote entries context)
keywords_in_short remote entries context =
    next (next (next (next
    (base_unless_remote_short remote (opened (find entries (codes "@base"))) context) (vocab_in_short (opened (find entries (codes "@vocab")))))
    (default_language_in_short (opened (find entries (codes "@language"))))) (λ _. when _ declining giving)) (propagate_in_short (opened (find entries (codes "@propagate"))))

-- ---- an import

imported_from_short : (entries : Sorted Tree) (doc : Doc) → AsksShort (imported_from entries doc)
imported_from_short entries doc = next (context_in_short doc doc.body) (λ local. imported_in_short entries (out-Tree local))

by_import_short : (entries : Sorted Tree) (iri : Option (List ℕ)) → IsShort iri → AsksShort (by_import entries iri)
by_import_short entries None few = failing
by_import_short entries (Some iri) few = asking iri _ few (imported_from_short entries)

import_in_short : (base : Option (List ℕ)) (entries : Sorted Tree) (value : Option (Tree-F Tree)) → AsksShort (import_in base entries value)
import_in_short base entries None = giving
import_in_short base entries (Some (Tree-F.Text text)) = by_import_short entries (loadable (against base text)) (loadable_short (against base text))
import_in_short base entries (Some _) = failing

-- ---- one item after another

module _ (again : Again) (again_short : (ask : Ask) → AsksShort (again ask)) (ask : Ask) where
  dereferenced_short : (progress : Progress) (doc : Doc) → AsksShort (dereferenced again ask progress doc)
  dereferenced_short progress doc = next (context_in_short doc doc.body) (λ local. next (again_short (remote_ask ask doc progress local)) (λ _. giving))

  by_remote_short : (progress : Progress) (iri : Option (List ℕ)) → IsShort iri → AsksShort (by_remote again ask progress iri)
  by_remote_short progress None few = failing
  by_remote_short progress (Some iri) few = when _ giving (when _ failing (asking iri _ few (dereferenced_short (record progress { remote = progress.remote ++ iri ∷ [] }))))

  check_short : (rest : Rest) (context : Context) (local : Tree) → AsksShort (check_by again rest context local)
  check_short rest context local = again_short (scoped_ask rest context local)

  unless_keyword_short : (rest : Rest) (local : Sorted Tree) (e : List ℕ × Tree) (made : Made) → AsksShort (unless_keyword (check_by again rest) rest local e made)
  unless_keyword_short rest local e made = when _ giving (defined_short (check_by again rest) (check_short rest) rest local e.0 made)

  terms_in_short : (progress : Progress) (local : Sorted Tree) (protected : Bool) (context : Context) → AsksShort (terms_in again ask progress local protected context)
  terms_in_short progress local protected context =
      next (each_short (unless_keyword (check_by again (rest_of ask progress protected)) (rest_of ask progress protected) local) (unless_keyword_short (rest_of ask progress protected) local) local.0
      (record { context = context; table = empty })) (λ _. giving)

  by_entries_short : (progress : Progress) (entries : Sorted Tree) → AsksShort (by_entries again ask progress entries)
  by_entries_short progress entries =
      next (keywords_in_short progress.remote entries progress.context) (λ context.
      next (protected_in_short (opened (find entries (codes "@protected")))) (λ protected. terms_in_short progress entries protected context))

  by_map_short : (progress : Progress) (entries : Sorted Tree) → AsksShort (by_map again ask progress entries)
  by_map_short progress entries =
      next (version_in_short (opened (find entries (codes "@version")))) (λ _.
      next (import_in_short ask.base entries (opened (find entries (codes "@import")))) (by_entries_short progress))

  by_item_short : (propagate : Bool) (value : Tree-F Tree) (progress : Progress) → AsksShort (by_item again ask propagate value progress)
  by_item_short propagate Tree-F.Null progress = next (nullified_short ask.active.own.first_base ask.over propagate progress.context) (λ _. giving)
  by_item_short propagate (Tree-F.Text text) progress = by_remote_short progress (loadable (against ask.base text)) (loadable_short (against ask.base text))
  by_item_short propagate (Tree-F.Map entries) progress = by_map_short progress entries
  by_item_short propagate _ progress = failing

  process_step_short : AsksShort (process_step again ask)
  process_step_short =
      let propagate = is_propagated ask.propagate (out-Tree ask.local) in
      next (each_short (item_step again ask propagate) (λ item. by_item_short propagate (out-Tree item)) (items_of ask.local) (record { context = begun propagate ask.active; remote = ask.remote })) (λ _. giving)

-- ---- the whole

processed_in_short : (left : ℕ) (ask : Ask) → AsksShort (processed_in left ask)
unfolding processed_in
processed_in_short zero ask = counting declining
processed_in_short (suc left) ask = counting (process_step_short (processed_in left) (processed_in_short left) ask)

pub process_short : (ask : Ask) → AsksShort (process ask)
process_short ask = processed_in_short (levels + 1 - ask.depth) ask
