-- What the calls of expansion answer, by the words of the definition.
use Rattle.std.specs.Prelude.{◌≡◌, ℕ, Bool, List, Option, None, Result, option_copied, option_map, codes}
use Rattle.ld_tree.specs.Maps.{find}
use Rattle.ld_tree.specs.Names.{Sorted}
use Rattle.ld_tree.specs.declared.tree.Tree.{Tree}
use Rattle.ld_rec.specs.declared.stop.Stop.{Stop}
use Rattle.ld_rec.specs.declared.way.Way.TheVariants.{Plain}
use Rattle.ld_rec.specs.Outcome.{Answer, Stock, give, Gives, GivesAs, ◌>>=◌}
use Rattle.ld_rec.specs.Records.{Context}
use Rattle.ld_rec.specs.Places.{Place, Element, Entry}
use Rattle.ld_rec.specs.Expansion.{element_becomes, as_list, unwrapped, typed_becomes, with_own, Node}
use Rattle.ld_expand.specs.declared.place.Place.{Place as Standing}
use Rattle.ld_expand.specs.declared.place.Node.{Node as References}

-- ---- answers

-- the call answers what comes of the question over the stock, where a value of the call stands for one of the
-- definition
abbrev pub AnswersAs : {A B : Type 0} → (A → B) → Stock → Result A Stop → Answer B → Type 0
AnswersAs view stock given o = GivesAs view given (o.run stock).result

-- the same value
abbrev pub Answers : {A : Type 0} → Stock → Result A Stop → Answer A → Type 0
Answers stock given o = Gives given (o.run stock).result

-- a call that changes a value: it has what comes of the question
abbrev pub AnswersNew : {A : Type 0} → Stock → Result (Unit {0}) Stop → A → Answer A → Type 0
AnswersNew stock given new o = GivesAs (λ _. new) given (o.run stock).result

-- calls that ask nothing answer so over every stock
abbrev pub Decides : {A : Type 0} → Result A Stop → Answer A → Type 0
Decides given o = (stock : Stock) → Answers stock given o

abbrev pub DecidesNew : {A : Type 0} → Result (Unit {0}) Stop → A → Answer A → Type 0
DecidesNew given new o = (stock : Stock) → AnswersNew stock given new o

-- ---- contexts

-- a call changes nothing of the documents that stand behind, and takes back nothing of what was given
abbrev pub Keeps : {S K : Type 0} → (S → Stock) → (S → K → Type 0) → S → S → Type 0
Keeps {S} {K} stock gave before now = (stock now ≡ stock before) × ((kept : K) → gave before kept → gave now kept)

-- ---- places and nodes, as the code's structs of references stand for them

abbrev pub placed : {K : Type 0} → (K → Context) → Standing K → Place
placed flat place = record { context = flat place.view.now; property = option_copied place.property; way = place.way }

abbrev pub node_of : Context → Context → Option (List ℕ) → Bool → Node
node_of context type_context property json = record { context = context; type_context = type_context; property = property; json = json }

abbrev pub seen : {K : Type 0} → (K → Context) → References K → Node
seen flat node = node_of (flat node.view.now) (flat node.type_view.now) (option_copied node.property) node.json

-- ---- stages

-- a document, in its first context
abbrev pub document_becomes : Option (List ℕ) → Tree → Context → Answer Tree
document_becomes base document context =
    element_becomes base document (record { context = context; property = None; way = Plain }) >>= (λ tree. give (as_list (option_map unwrapped tree)))

-- 9, and on: the map's own context, and then those of its types
abbrev pub own_becomes : Option (List ℕ) → Sorted Tree → List Entry → Option (List ℕ) → Context → Answer (Option Tree)
own_becomes base trees entries property context = with_own base (find trees (codes "@context")) context >>= typed_becomes trees entries property

-- ---- elements

-- a tree, beside what it comes to
abbrev pub beside : Option (List ℕ) → Tree → Element
beside base tree = (tree, element_becomes base tree)

abbrev pub entry_beside : Option (List ℕ) → List ℕ × Tree → Entry
entry_beside base e = (e.0, (e.1, element_becomes base e.1))
