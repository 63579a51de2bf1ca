-- The compact texts of bodies.
use Rattle.std.proofs.Common.{◌≡◌, ℕ, Bool, false, None, List, [], ◌∷◌, ◌++◌, ap, ap₂, sym, ◌∙◌}
use Rattle.std.proofs.lemmas.List.{append-nil}
use Rattle.std.specs.Prelude.{codes, pos}
use Rattle.std.specs.Fmt.{decimal}
use Rattle.ld_tree.specs.CompactText.{text, text_step, quoted, with_commas, member_texts}
use Rattle.ld_tree.specs.Maps.{empty, put}
use Rattle.ld_tree.specs.declared.tree.Num.TheVariants.{Whole}
use Rattle.ld_tree.specs.declared.tree.Tree.{Tree}
use Rattle.ld_tree.specs.declared.tree.Tree.TheOpen.{Tree-F}
use Rattle.ld_tree.specs.declared.tree.Tree.TheViews.{roll-Tree}
use Rattle.ld_tree.specs.declared.tree.Tree.TheFolds.{map-Tree, fold-roll-Tree}
use Rattle.ld_head.specs.declared.outcome.Outcome.TheVariants.{NoMemory}
use Rattle.ld_head.specs.declared.reply.Media.TheVariants.{Json}
use Rattle.ld_head.specs.declared.reply.Reply.{Reply}
use Rattle.ld_head.specs.Outcomes.{own_body, number_body, number_under, reply}
use Rattle.ld_head.specs.Replies.{reply_text}

text_rolled : (y : Tree-F Tree) → text (roll-Tree y) ≡ text_step (map-Tree Tree (List ℕ) text y)
text_rolled = fold-roll-Tree (List ℕ) text_step

-- a map, from its members' texts
abbrev map_text : List (List ℕ × List ℕ) → List ℕ
map_text members = 123 ∷ with_commas (member_texts members) ++ 125 ∷ []

text-own_body : (own : List ℕ) → text (own_body own) ≡ map_text ((codes "own", quoted own) ∷ [])
text-own_body own = text_rolled (Tree-F.Map (put empty (codes "own") (roll-Tree (Tree-F.Text own)))) ∙ ap (λ t. map_text ((codes "own", t) ∷ [])) (text_rolled (Tree-F.Text own))

pub own_text_is : (own : List ℕ) → codes "{\"own\":" ++ quoted own ++ 125 ∷ [] ≡ text (own_body own)
own_text_is own = ap (λ l. l ++ 125 ∷ []) (sym (append-nil (codes "{\"own\":" ++ quoted own))) ∙ sym (text-own_body own)

abbrev pub no_memory : (closes head_alone : Bool) → List ℕ → Reply
no_memory closes head_alone body = record { status = 500; media = Json; fields = None; allow = false; close = closes; head_alone = head_alone; body = body }

-- a number, and behind it the text under `own`
abbrev number_first : (name : List ℕ) (number own : List ℕ) → List ℕ
number_first name number own = map_text ((name, number) ∷ (codes "own", own) ∷ [])

pub archive_text_is : (n : ℕ) → codes "{\"bytes\":" ++ (decimal n ++ codes ",\"own\":\"archive full\"") ++ 125 ∷ [] ≡ text (number_body (codes "bytes") n (codes "archive full"))
archive_text_is n = sym (
    text_rolled (Tree-F.Map (put (number_under (codes "bytes") n) (codes "own") (roll-Tree (Tree-F.Text (codes "archive full")))))
    ∙ ap₂ (number_first (codes "bytes")) (text_rolled (Tree-F.Num (Whole (pos n)))) (text_rolled (Tree-F.Text (codes "archive full"))))

pub history_text_is : (n : ℕ) → codes "{\"events\":" ++ (decimal n ++ codes ",\"own\":\"history full\"") ++ 125 ∷ [] ≡ text (number_body (codes "events") n (codes "history full"))
history_text_is n = sym (
    text_rolled (Tree-F.Map (put (number_under (codes "events") n) (codes "own") (roll-Tree (Tree-F.Text (codes "history full")))))
    ∙ ap₂ (number_first (codes "events")) (text_rolled (Tree-F.Num (Whole (pos n)))) (text_rolled (Tree-F.Text (codes "history full"))))

-- the reply of want of memory, with the body as it is written
pub no_memory_is : (interim closes head_alone : Bool) → reply_text (no_memory closes head_alone (codes "{\"own\":\"no memory\"}")) ≡ reply None NoMemory (record { interim = interim; closes = closes; head_alone = head_alone })
no_memory_is interim closes head_alone = ap (λ body. reply_text (no_memory closes head_alone body)) (own_text_is (codes "no memory"))
