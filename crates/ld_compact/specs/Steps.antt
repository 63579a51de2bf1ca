-- What the calls of compaction answer, by the words of the definition.
use Rattle.std.specs.Prelude.{◌≡◌, ℕ, Bool, List, Option, Some, None, Result, map, option_copied}
use Rattle.ld_tree.specs.Maps.{empty}
use Rattle.ld_tree.specs.Names.{Sorted}
use Rattle.ld_tree.specs.declared.tree.Tree.{Tree}
use Rattle.ld_rec.specs.declared.stop.Stop.{Stop}
use Rattle.ld_rec.specs.Outcome.{Answer, Stock, Gives, GivesAs, give, ◌>>=◌}
use Rattle.ld_rec.specs.Records.{Context}
use Rattle.ld_rec.specs.Kinds.{map_of}
use Rattle.ld_compact.specs.declared.place.Place.{Place as Standing}
use Rattle.ld_compact.specs.declared.place.Property.{Property as Named}
use Rattle.ld_compact.specs.Elements.{Way, Place, Item, Value, Entry, compact_whole}
use Rattle.ld_compact.specs.Compaction.{element, Node, Property, id_rule, value_or_map}

-- ---- answers

-- the call answers what comes of the question over the stock, where a value of the call stands for one of the
-- definition
abbrev pub AnswersAs : {A B : Type 0} → (A → B) → Stock → Result A Stop → Answer B → Type 0
AnswersAs view stock given o = GivesAs view given (o.run stock).result

-- the same value
abbrev pub Answers : {A : Type 0} → Stock → Result A Stop → Answer A → Type 0
Answers stock given o = Gives given (o.run stock).result

-- a call that changes a value: it has what comes of the question
abbrev pub AnswersNew : {A : Type 0} → Stock → Result (Unit {0}) Stop → A → Answer A → Type 0
AnswersNew stock given new o = GivesAs (λ _. new) given (o.run stock).result

-- calls that ask for no document answer so over every stock
abbrev pub DecidesAs : {A B : Type 0} → (A → B) → Result A Stop → Answer B → Type 0
DecidesAs view given o = (stock : Stock) → AnswersAs view stock given o

abbrev pub Decides : {A : Type 0} → Result A Stop → Answer A → Type 0
Decides given o = (stock : Stock) → Answers stock given o

abbrev pub DecidesNew : {A : Type 0} → Result (Unit {0}) Stop → A → Answer A → Type 0
DecidesNew given new o = (stock : Stock) → AnswersNew stock given new o

-- a call changes nothing of the documents that stand behind, and takes back nothing of what was given
abbrev pub Keeps : {S K : Type 0} → (S → Stock) → (S → K → Type 0) → S → S → Type 0
Keeps {S} {K} stock gave before now = (stock now ≡ stock before) × ((kept : K) → gave before kept → gave now kept)

-- ---- places and properties, as the code's structs of references stand for them

abbrev pub place_of : Context → Option (List ℕ) → Way → Place
place_of context property way = record { context = context; property = property; way = way }

abbrev pub placed : {K : Type 0} → (K → Context) → Way → Standing K → Place
placed flat way place = place_of (flat place.view.now) (option_copied place.property) way

abbrev pub node_of : Context → Option (List ℕ) → List (List ℕ) → Node
node_of context property types = record { context = context; property = property; types = types }

abbrev pub seen : {K : Type 0} → (K → Context) → List (List ℕ) → Standing K → Node
seen flat types place = node_of (flat place.view.now) (option_copied place.property) types

abbrev pub named : Named → Property
named property = record { name = property.name.now; containers = property.containers; as_list = property.as_list }

-- ---- elements

-- a value, beside what it comes to and what its items come to
abbrev pub beside : (arrays : Bool) → Tree → Value
beside arrays tree = (tree, element arrays tree)

abbrev pub item_beside : (arrays : Bool) → Tree → Item
item_beside arrays tree = (tree, (element arrays tree).0)

abbrev pub entry_beside : (arrays : Bool) → List ℕ × Tree → Entry
entry_beside arrays e = (e.0, beside arrays e.1)

abbrev pub all_beside : (arrays : Bool) → Sorted Tree → List Entry
all_beside arrays trees = map (entry_beside arrays) trees.0

-- the value under a name, compacted, where there is one
abbrev pub within_becomes : Option Value → Place → Answer (Option Tree)
within_becomes None place = give None
within_becomes (Some value) place = compact_whole value place.context place.property >>= (λ tree. give (Some tree))

-- an `@id` alone, or nothing, in its context
abbrev pub only_entries : Context → Option Tree → Answer (Sorted Tree)
only_entries context None = give empty
only_entries context (Some id) = id_rule context id empty

abbrev pub only_or_value : Option Tree → Place → Option Tree → Answer Tree
only_or_value id place (Some value) = give value
only_or_value id place None = only_entries place.context id >>= (λ made. give (map_of made))

abbrev pub only_becomes : Option Tree → Tree → Place → Answer Tree
only_becomes id only place = value_or_map only place.context place.property >>= only_or_value id place
