-- Context Processing (JSON-LD 1.1 API, 4.1.2) over a stock of documents.
use Rattle.std.specs.Prelude.{ℕ, zero, suc, ◌+◌, ◌-◌, Bool, true, false, not, ◌&&◌, if◌then◌else◌, List, [], ◌∷◌, ◌++◌, length, Option, Some, None, codes, nat_le, fold}
use Rattle.ld_codes.specs.declared.code.Code.TheVariants as code
use Rattle.ld_codes.specs.declared.keyword.Keyword.TheVariants as keyword
use Rattle.ld_codes.specs.declared.own.Own.TheVariants.{NestingLimit, OutsideProfile}
use Rattle.ld_iri.specs.Words.{is_iri}
use Rattle.ld_iri.specs.Resolution.{resolved}
use Rattle.ld_tree.specs.Names.{Sorted}
use Rattle.ld_tree.specs.Trees.{member}
use Rattle.ld_tree.specs.declared.tree.Num.TheVariants.{OneOne}
use Rattle.ld_tree.specs.declared.tree.Tree.{Tree, out-Tree}
use Rattle.ld_tree.specs.declared.tree.Tree.TheOpen.{Tree-F}
use Rattle.ld_rec.specs.declared.doc.Doc.{Doc}
use Rattle.ld_rec.specs.declared.stored.Stored.{Stored}
use Rattle.ld_rec.specs.declared.stored.Stored.TheVariants.{Read}
use Rattle.ld_rec.specs.Iris.{iri_of}
use Rattle.ld_tree.specs.Maps.{find, put, empty}
use Rattle.ld_rec.specs.Outcome.{Answer, Outcome, Stock, give, fails, declines, asks, counted, each, ◌>>=◌}
use Rattle.ld_rec.specs.Records.{Context, Layer, fresh_layer, has_protected}
use Rattle.ld_rec.specs.Terms.{Made, Rest, Check, defined}
use Rattle.ld_rec.specs.Words.{is_among, is_iri_or_blank, lowered, has, items_of, opened}

-- what an invocation is given (4.1.2, its inputs), and how deep it is within others (own)
pub record Ask : Type 0 where
  pub active : Context
  pub local : Tree
  pub base : Option (List ℕ)
  pub remote : List (List ℕ)
  pub over : Bool
  pub propagate : Bool
  pub validate : Bool
  pub depth : ℕ

-- what another invocation gives
abbrev pub Again : Type 0
Again = Ask → Answer Context

-- own limits
abbrev pub levels : ℕ
levels = 32

abbrev pub previous_limit : ℕ
previous_limit = 32

abbrev pub remote_limit : ℕ
remote_limit = 16

abbrev pub iri_limit : ℕ
iri_limit = 2048

-- the context so far, and the remote contexts
pub record Progress : Type 0 where
  pub context : Context
  pub remote : List (List ℕ)

-- ---- 5.1: null

abbrev pub within_limit : Context → Answer Context
within_limit context = if nat_le (length context.before) previous_limit then give context else declines NestingLimit

-- 5.1.2: where it isn't propagated, its previous context is the result before
abbrev pub anew : Option (List ℕ) → Bool → Context → Context
anew base true context = record { own = fresh_layer base; before = [] }
anew base false context = record { own = fresh_layer base; before = context.own ∷ context.before }

-- 5.1.1, of the result so far (own)
abbrev pub nullified : Option (List ℕ) → (over propagate : Bool) → Context → Answer Context
nullified base over propagate context =
    if not over && has_protected context then fails code.InvalidContextNullification else within_limit (anew base propagate context)

-- ---- 5.2: a remote context

-- 5.2.1, and 5.6.3: resolved against the base URL; without one, an IRI stays
abbrev pub against : Option (List ℕ) → List ℕ → List ℕ
against (Some base) text = resolved base text
against None text = text

-- what can be asked for: an IRI of no more bytes than the limit (own)
abbrev pub loadable : List ℕ → Option (List ℕ)
loadable iri = if is_iri iri && nat_le (length iri) iri_limit then Some iri else None

-- 5.2.5.1 to 5.2.5.3, and 5.6.5 and 5.6.6
abbrev pub context_in : Doc → Stored → Answer Tree
context_in doc (Read text tree) = found_in (member (codes "@context") tree)
  where
    found_in : Option Tree → Answer Tree
    found_in (Some local) = give local
    found_in None = fails code.InvalidRemoteContext
context_in doc _ = fails code.LoadingRemoteContextFailed

-- a document's URL as the base of what it holds, where it is an IRI (own)
abbrev pub base_of : Doc → Option (List ℕ)
base_of doc = if is_iri doc.url then Some doc.url else None

-- 5.2.6
abbrev pub remote_ask : Ask → Doc → Progress → Tree → Ask
remote_ask ask doc progress local = record {
  active = progress.context;
  local = local;
  base = base_of doc;
  remote = progress.remote;
  over = false;
  propagate = true;
  validate = ask.validate;
  depth = ask.depth + 1;
}

abbrev pub dereferenced : Again → Ask → Progress → Doc → Answer Progress
dereferenced again ask progress doc = context_in doc doc.body >>= (λ local. again (remote_ask ask doc progress local) >>= (λ context. give (record progress { context = context })))

-- 5.2.1 to 5.2.6
abbrev pub by_remote : Again → Ask → Progress → Option (List ℕ) → Answer Progress
by_remote again ask progress None = fails code.LoadingDocumentFailed
by_remote again ask progress (Some iri) =
    if not ask.validate && is_among progress.remote iri then give progress
    else if nat_le remote_limit (length progress.remote) then fails code.ContextOverflow
    else asks iri (dereferenced again ask (record progress { remote = progress.remote ++ iri ∷ [] }))

-- ---- 5.5 to 5.12: the keywords of a context definition

-- 5.5
abbrev pub version_in : Option (Tree-F Tree) → Answer (Unit {0})
version_in None = give tt
version_in (Some (Tree-F.Num OneOne)) = give tt
version_in (Some _) = fails code.InvalidVersionValue

-- 5.6.8: the item's entries in place of the imported map's
abbrev pub with_entry : Sorted Tree → List ℕ × Tree → Sorted Tree
with_entry entries e = put entries e.0 e.1

abbrev pub merged : Sorted Tree → Sorted Tree → Sorted Tree
merged imported entries = fold with_entry imported entries.0

-- 5.6.6 and 5.6.7
abbrev pub imported_in : Sorted Tree → Tree-F Tree → Answer (Sorted Tree)
imported_in entries (Tree-F.Map imported) = if has imported (codes "@import") then fails code.InvalidContextEntry else give (merged imported entries)
imported_in entries _ = fails code.InvalidRemoteContext

abbrev pub imported_from : Sorted Tree → Doc → Answer (Sorted Tree)
imported_from entries doc = context_in doc doc.body >>= (λ local. imported_in entries (out-Tree local))

-- 5.6.3 to 5.6.5; own: what can't be asked for fails as what can't be loaded
abbrev pub by_import : Sorted Tree → Option (List ℕ) → Answer (Sorted Tree)
by_import entries None = fails code.LoadingRemoteContextFailed
by_import entries (Some iri) = asks iri (imported_from entries)

-- 5.6.2
abbrev pub import_in : Option (List ℕ) → Sorted Tree → Option (Tree-F Tree) → Answer (Sorted Tree)
import_in base entries None = give entries
import_in base entries (Some (Tree-F.Text text)) = by_import entries (loadable (against base text))
import_in base entries (Some _) = fails code.InvalidImportValue

abbrev pub with_base : Option (List ℕ) → Context → Context
with_base base context = record context { own = record context.own { base = base } }

-- 5.7.4 and 5.7.5
abbrev pub if_resolved : Context → List ℕ → Answer Context
if_resolved context iri = if is_iri iri then give (with_base (Some iri) context) else fails code.InvalidBaseIri

abbrev pub relative_base : Context → List ℕ → Option (List ℕ) → Answer Context
relative_base context text (Some base) = if_resolved context (resolved base text)
relative_base context text None = fails code.InvalidBaseIri

-- 5.7.2 to 5.7.5
abbrev pub base_in : Option (Tree-F Tree) → Context → Answer Context
base_in None context = give context
base_in (Some Tree-F.Null) context = give (with_base None context)
base_in (Some (Tree-F.Text text)) context = if is_iri text then give (with_base (Some text) context) else relative_base context text context.own.base
base_in (Some _) context = fails code.InvalidBaseIri

-- 5.7: not in a remote context
abbrev pub base_unless_remote : List (List ℕ) → Option (Tree-F Tree) → Context → Answer Context
base_unless_remote [] value context = base_in value context
base_unless_remote (iri ∷ iris) value context = give context

-- 5.8
abbrev pub with_vocab : Option (List ℕ) → Context → Context
with_vocab vocab context = record context { own = record context.own { vocab = vocab } }

abbrev pub by_vocab_iri : Option (List ℕ) → Context → Answer Context
by_vocab_iri None context = fails code.InvalidVocabMapping
by_vocab_iri (Some iri) context = if is_iri_or_blank iri then give (with_vocab (Some iri) context) else fails code.InvalidVocabMapping

abbrev pub vocab_in : Option (Tree-F Tree) → Context → Answer Context
vocab_in None context = give context
vocab_in (Some Tree-F.Null) context = give (with_vocab None context)
vocab_in (Some (Tree-F.Text text)) context = by_vocab_iri (iri_of context text true true) context
vocab_in (Some _) context = fails code.InvalidVocabMapping

-- 5.9
abbrev pub with_default_language : Option (List ℕ) → Context → Context
with_default_language language context = record context { own = record context.own { language = language } }

abbrev pub default_language_in : Option (Tree-F Tree) → Context → Answer Context
default_language_in None context = give context
default_language_in (Some Tree-F.Null) context = give (with_default_language None context)
default_language_in (Some (Tree-F.Text tag)) context = give (with_default_language (Some (lowered tag)) context)
default_language_in (Some _) context = fails code.InvalidDefaultLanguage

-- 5.10 (own)
abbrev pub without_direction : Sorted Tree → Context → Answer Context
without_direction entries context = if has entries (codes "@direction") then declines (OutsideProfile keyword.Direction) else give context

-- 5.11
abbrev pub propagate_in : Option (Tree-F Tree) → Context → Answer Context
propagate_in None context = give context
propagate_in (Some (Tree-F.Bool b)) context = give context
propagate_in (Some _) context = fails code.InvalidPropagateValue

-- 5.13, protected: absent is false; own: what is no truth value fails
abbrev pub protected_in : Option (Tree-F Tree) → Answer Bool
protected_in None = give false
protected_in (Some (Tree-F.Bool b)) = give b
protected_in (Some _) = fails code.InvalidProtectedValue

-- 5.7 to 5.11
abbrev pub keywords_in : List (List ℕ) → Sorted Tree → Context → Answer Context
keywords_in remote entries context =
    base_unless_remote remote (opened (find entries (codes "@base"))) context >>= vocab_in (opened (find entries (codes "@vocab")))
    >>= default_language_in (opened (find entries (codes "@language"))) >>= without_direction entries >>= propagate_in (opened (find entries (codes "@propagate")))

-- ---- 5.12 and 5.13: the terms

-- 4.2.2, 21.3: a scoped context is tried one level deeper, with leave to override, and isn't validated further
abbrev pub scoped_ask : Rest → Context → Tree → Ask
scoped_ask rest context local = record {
  active = context;
  local = local;
  base = rest.base;
  remote = rest.remote;
  over = true;
  propagate = true;
  validate = false;
  depth = rest.depth + 1;
}

abbrev pub check_by : Again → Rest → Check
check_by again rest context local = again (scoped_ask rest context local)

abbrev pub context_keywords : List (List ℕ)
context_keywords = codes "@base" ∷ codes "@direction" ∷ codes "@import" ∷ codes "@language" ∷ codes "@propagate" ∷ codes "@protected" ∷ codes "@version" ∷ codes "@vocab" ∷ []

abbrev pub unless_keyword : Check → Rest → Sorted Tree → List ℕ × Tree → Made → Answer Made
unless_keyword check rest local e made = if is_among context_keywords e.0 then give made else defined check rest local e.0 made

abbrev pub rest_of : Ask → Progress → Bool → Rest
rest_of ask progress protected = record { base = ask.base; protected = protected; over = ask.over; remote = progress.remote; validate = ask.validate; depth = ask.depth }

abbrev pub terms_in : Again → Ask → Progress → Sorted Tree → Bool → Context → Answer Progress
terms_in again ask progress local protected context =
    each (unless_keyword (check_by again (rest_of ask progress protected)) (rest_of ask progress protected) local) local.0 (record { context = context; table = empty })
    >>= (λ made. give (record progress { context = made.context }))

abbrev pub by_entries : Again → Ask → Progress → Sorted Tree → Answer Progress
by_entries again ask progress entries =
    keywords_in progress.remote entries progress.context >>= (λ context.
    protected_in (opened (find entries (codes "@protected"))) >>= (λ protected.
    terms_in again ask progress entries protected context))

-- 5.4 to 5.13
abbrev pub by_map : Again → Ask → Progress → Sorted Tree → Answer Progress
by_map again ask progress entries =
    version_in (opened (find entries (codes "@version"))) >>= (λ _.
    import_in ask.base entries (opened (find entries (codes "@import"))) >>= by_entries again ask progress)

-- ---- 1 to 6

-- 2: the local context's own @propagate
abbrev pub is_propagated_by : Bool → Option (Tree-F Tree) → Bool
is_propagated_by propagate (Some (Tree-F.Bool b)) = b
is_propagated_by propagate _ = propagate

abbrev pub is_propagated : Bool → Tree-F Tree → Bool
is_propagated propagate (Tree-F.Map entries) = is_propagated_by propagate (opened (find entries (codes "@propagate")))
is_propagated propagate _ = propagate

-- 3
abbrev pub first_kept : Context → List Layer → Context
first_kept context [] = record context { before = context.own ∷ [] }
first_kept context (layer ∷ layers) = context

abbrev pub begun : Bool → Context → Context
begun true context = context
begun false context = first_kept context context.before

-- 5.1 to 5.4
abbrev pub by_item : Again → Ask → Bool → Tree-F Tree → Progress → Answer Progress
by_item again ask propagate Tree-F.Null progress = nullified ask.active.own.first_base ask.over propagate progress.context >>= (λ context. give (record progress { context = context }))
by_item again ask propagate (Tree-F.Text text) progress = by_remote again ask progress (loadable (against ask.base text))
by_item again ask propagate (Tree-F.Map entries) progress = by_map again ask progress entries
by_item again ask propagate _ progress = fails code.InvalidLocalContext

abbrev pub item_step : Again → Ask → Bool → Tree → Progress → Answer Progress
item_step again ask propagate item progress = by_item again ask propagate (out-Tree item) progress

-- 4 to 6
abbrev pub by_items : Again → Ask → Bool → Answer Context
by_items again ask propagate =
    each (item_step again ask propagate) (items_of ask.local) (record { context = begun propagate ask.active; remote = ask.remote }) >>= (λ progress. give progress.context)

abbrev pub process_step : Again → Again
process_step again ask = by_items again ask (is_propagated ask.propagate (out-Tree ask.local))

-- with so many levels left; each invocation counts
unfoldable pub processed_in : ℕ → Again
processed_in zero ask = counted (declines NestingLimit)
processed_in (suc left) ask = counted (process_step (processed_in left) ask)

-- the algorithm's answer: an invocation deeper than 32 is refused (own)
abbrev pub process : Again
process ask = processed_in (levels + 1 - ask.depth) ask

-- the outcome over a stock
abbrev pub processed : Stock → Ask → Outcome Context
processed stock ask = (process ask).run stock

-- the documents that it asks for, in order
abbrev pub looked : Stock → Ask → List (List ℕ)
looked stock ask = (processed stock ask).reads
