-- The steps of the reader: what a state stands for, the one before it stood for.
use Rattle.std.proofs.Common.{◌≡◌, ◌∙◌, refl, sym, ap, subst, ℕ, zero, suc, ◌-◌, ◌<◌, List, [], ◌∷◌, ◌++◌, length, reverse, Option, Some, None, arith, append_assoc, length-append}
use Rattle.std.proofs.lemmas.List.{reverse-append}
use Rattle.ld_tree.specs.Names.{Sorted}
use Rattle.ld_tree.specs.Reading.{IsString, IsValue, a_list, a_map, no_items, items, end_items, more_items, IsMember, member, no_members, members, end_members, more_members, past_space, past_mark, put_all, reads}
use Rattle.ld_tree.specs.declared.tree.Tree as t
use Rattle.ld_tree.specs.declared.tree.Tree.{Tree}
use Rattle.ld_tree_read.specs.Stack.{Completes, MeansAt, Means, Becomes, IsName, named}
use Rattle.ld_tree_read.specs.declared.frame.Frame.{Frame}
use Rattle.ld_tree_read.specs.declared.frame.Frame.TheVariants as f

-- the stack, innermost first, and the levels that are left
pushed : (fs : List Frame) (g : Frame) → reverse (fs ++ g ∷ []) ≡ g ∷ reverse fs
pushed fs g = reverse-append fs (g ∷ [])

room_down : (fs : List Frame) (g : Frame) → length fs < 128 → 128 - length fs ≡ suc (128 - length (fs ++ g ∷ []))
room_down fs g lt = omega (arith, length-append fs (g ∷ []))

-- a step within a frame, seen from the innermost frame on, and from the outermost on
module _ (fs : List Frame) (g : Frame) where
  abbrev d : ℕ
  d = 128 - length (fs ++ g ∷ [])

  -- the frame stays, as another
  within : (g' : Frame) (x y : Option Tree) (b c : List ℕ) → ((whole : Tree) → MeansAt d (g' ∷ reverse fs) y c whole → MeansAt d (g ∷ reverse fs) x b whole) → Becomes (fs ++ g ∷ []) x b (fs ++ g' ∷ []) y c
  within g' x y b c back =
      let same : d ≡ 128 - length (fs ++ g' ∷ []) = omega (arith, length-append fs (g ∷ []), length-append fs (g' ∷ [])) in
      record {
        back = λ whole h. subst (λ gs. MeansAt d gs x b whole) (sym (pushed fs g))
            (back whole (subst (λ gs. MeansAt d gs y c whole) (pushed fs g') (subst (λ d. MeansAt d (reverse (fs ++ g' ∷ [])) y c whole) (sym same) h)));
      }

  -- the frame is opened
  opens : (x y : Option Tree) (b c : List ℕ) → length fs < 128 → ((whole : Tree) → MeansAt d (g ∷ reverse fs) y c whole → MeansAt (suc d) (reverse fs) x b whole) → Becomes fs x b (fs ++ g ∷ []) y c
  opens x y b c lt back = record {
    back = λ whole h. subst (λ d. MeansAt d (reverse fs) x b whole) (sym (room_down fs g lt)) (back whole (subst (λ gs. MeansAt d gs y c whole) (pushed fs g) h));
  }

  -- the frame is closed
  closes : (x y : Option Tree) (b c : List ℕ) → length fs < 128 → ((whole : Tree) → MeansAt (suc d) (reverse fs) y c whole → MeansAt d (g ∷ reverse fs) x b whole) → Becomes (fs ++ g ∷ []) x b fs y c
  closes x y b c lt back = record {
    back = λ whole h. subst (λ gs. MeansAt d gs x b whole) (sym (pushed fs g)) (back whole (subst (λ d. MeansAt d (reverse fs) y c whole) (room_down fs g lt) h));
  }

-- a value has been read
pub value_read : (fs : List Frame) {b r : List ℕ} {x : Tree} → IsValue (128 - length fs) b x r → Becomes fs None b fs (Some x) r
unfolding MeansAt
value_read fs {b} {r} {x} h = record { back = λ whole k. (x, r, h, k) }

-- a list opens
open_back : (d : ℕ) (fs : List Frame) (b : List ℕ) (whole : Tree) → MeansAt d (f.List [] ∷ fs) None (past_space b) whole → MeansAt (suc d) fs None (91 ∷ b) whole
unfolding MeansAt Completes
open_back d fs b whole (x, c, v, (ts, r, h, k)) = (t.List (x ∷ ts), r, a_list (items v h), k)

pub list_opens : (fs : List Frame) (b : List ℕ) → length fs < 128 → Becomes fs None (91 ∷ b) (fs ++ f.List [] ∷ []) None (past_space b)
list_opens fs b lt = let d = 128 - length (fs ++ f.List [] ∷ []) in opens fs (f.List []) None None (91 ∷ b) (past_space b) lt (open_back d (reverse fs) b)

positive : (d : ℕ) → 0 < d → (e : ℕ) × (d ≡ suc e)
positive zero lt = absurd (omega arith)
positive (suc e) lt = (e, refl)

pub list_empty : (fs : List Frame) {b r : List ℕ} → length fs < 128 → past_space b ≡ 93 ∷ r → Becomes fs None (91 ∷ b) fs (Some (t.List [])) r
list_empty fs {b} {r} lt e =
    let (d, is) = positive (128 - length fs) (omega arith) in
    value_read fs (subst (λ d. IsValue d (91 ∷ b) (t.List []) r) (sym is) (a_list (no_items e)))

-- an item and a comma
comma_back : (d : ℕ) (fs : List Frame) (done : List Tree) (x : Tree) (b c : List ℕ) (whole : Tree) → past_space b ≡ 44 ∷ c
    → MeansAt d (f.List (done ++ x ∷ []) ∷ fs) None (past_space c) whole → MeansAt d (f.List done ∷ fs) (Some x) b whole
unfolding MeansAt Completes
comma_back d fs done x b c whole e (y, q, v, (ys, r, h, k)) = (y ∷ ys, r, more_items e v h, subst (λ l. Completes (suc d) fs (t.List l) r whole) (append_assoc done (x ∷ []) (y ∷ ys)) k)

pub item_comma : (fs : List Frame) (done : List Tree) (x : Tree) (b c : List ℕ) → past_space b ≡ 44 ∷ c
    → Becomes (fs ++ f.List done ∷ []) (Some x) b (fs ++ f.List (done ++ x ∷ []) ∷ []) None (past_space c)
item_comma fs done x b c e =
    let d = 128 - length (fs ++ f.List done ∷ []) in
    within fs (f.List done) (f.List (done ++ x ∷ [])) (Some x) None b (past_space c) (λ whole. comma_back d (reverse fs) done x b c whole e)

-- the last item
end_back : (d : ℕ) (fs : List Frame) (done : List Tree) (x : Tree) (b c : List ℕ) (whole : Tree) → past_space b ≡ 93 ∷ c
    → MeansAt (suc d) fs (Some (t.List (done ++ x ∷ []))) c whole → MeansAt d (f.List done ∷ fs) (Some x) b whole
unfolding MeansAt Completes
end_back d fs done x b c whole e k = ([], c, end_items e, k)

pub item_end : (fs : List Frame) (done : List Tree) (x : Tree) (b c : List ℕ) → length fs < 128 → past_space b ≡ 93 ∷ c
    → Becomes (fs ++ f.List done ∷ []) (Some x) b fs (Some (t.List (done ++ x ∷ []))) c
item_end fs done x b c lt e =
    let d = 128 - length (fs ++ f.List done ∷ []) in
    closes fs (f.List done) (Some x) (Some (t.List (done ++ x ∷ []))) b c lt (λ whole. end_back d (reverse fs) done x b c whole e)

-- a name and a value are a member
join : {d : ℕ} {b name c r : List ℕ} {v : Tree} → IsName b name c → IsValue d c v r → IsMember d b (name, v) r
join (named h is) v = member h is v

-- a map opens
map_back : (d : ℕ) (fs : List Frame) (b name c : List ℕ) (whole : Tree) → IsName (past_space b) name c → MeansAt d (f.Map [] name ∷ fs) None c whole → MeansAt (suc d) fs None (123 ∷ b) whole
unfolding MeansAt Completes
map_back d fs b name c whole n (v, q, h, (ms, es, r, hs, put, k)) = (t.Map es, r, a_map ((name, v) ∷ ms) es (members (join n h) hs) put, k)

pub map_opens : (fs : List Frame) (b name c : List ℕ) → length fs < 128 → IsName (past_space b) name c → Becomes fs None (123 ∷ b) (fs ++ f.Map [] name ∷ []) None c
map_opens fs b name c lt n =
    let d = 128 - length (fs ++ f.Map [] name ∷ []) in
    opens fs (f.Map [] name) None None (123 ∷ b) c lt (λ whole. map_back d (reverse fs) b name c whole n)

pub map_empty : (fs : List Frame) {b r : List ℕ} (es : Sorted Tree) → length fs < 128 → past_space b ≡ 125 ∷ r → es.0 ≡ [] → Becomes fs None (123 ∷ b) fs (Some (t.Map es)) r
map_empty fs {b} {r} es lt e none =
    let (d, is) = positive (128 - length fs) (omega arith) in
    value_read fs (subst (λ d. IsValue d (123 ∷ b) (t.Map es) r) (sym is) (a_map [] es (no_members e) none))

-- a member, a comma and the next name
mcomma_back : (d : ℕ) (fs : List Frame) (done : List (List ℕ × Tree)) (name : List ℕ) (x : Tree) (b c next e : List ℕ) (whole : Tree) → past_space b ≡ 44 ∷ c → IsName (past_space c) next e
    → MeansAt d (f.Map (done ++ (name, x) ∷ []) next ∷ fs) None e whole → MeansAt d (f.Map done name ∷ fs) (Some x) b whole
unfolding MeansAt Completes
mcomma_back d fs done name x b c next e whole comma n (v, q, h, (ms, es, r, hs, put, k)) =
    ((next, v) ∷ ms, es, r, more_members comma (join n h) hs, put ∙ ap (put_all []) (append_assoc done ((name, x) ∷ []) ((next, v) ∷ ms)), k)

pub member_comma : (fs : List Frame) (done : List (List ℕ × Tree)) (name : List ℕ) (x : Tree) (b c next e : List ℕ) → past_space b ≡ 44 ∷ c → IsName (past_space c) next e
    → Becomes (fs ++ f.Map done name ∷ []) (Some x) b (fs ++ f.Map (done ++ (name, x) ∷ []) next ∷ []) None e
member_comma fs done name x b c next e comma n =
    let d = 128 - length (fs ++ f.Map done name ∷ []) in
    within fs (f.Map done name) (f.Map (done ++ (name, x) ∷ []) next) (Some x) None b e (λ whole. mcomma_back d (reverse fs) done name x b c next e whole comma n)

-- the last member
mend_back : (d : ℕ) (fs : List Frame) (done : List (List ℕ × Tree)) (name : List ℕ) (x : Tree) (es : Sorted Tree) (b c : List ℕ) (whole : Tree) → past_space b ≡ 125 ∷ c → es.0 ≡ put_all [] (done ++ (name, x) ∷ [])
    → MeansAt (suc d) fs (Some (t.Map es)) c whole → MeansAt d (f.Map done name ∷ fs) (Some x) b whole
unfolding MeansAt Completes
mend_back d fs done name x es b c whole e is k = ([], es, c, end_members e, is, k)

pub member_end : (fs : List Frame) (done : List (List ℕ × Tree)) (name : List ℕ) (x : Tree) (es : Sorted Tree) (b c : List ℕ) → length fs < 128 → past_space b ≡ 125 ∷ c → es.0 ≡ put_all [] (done ++ (name, x) ∷ [])
    → Becomes (fs ++ f.Map done name ∷ []) (Some x) b fs (Some (t.Map es)) c
member_end fs done name x es b c lt e is =
    let d = 128 - length (fs ++ f.Map done name ∷ []) in
    closes fs (f.Map done name) (Some x) (Some (t.Map es)) b c lt (λ whole. mend_back d (reverse fs) done name x es b c whole e is)

-- the end of it all
pub read_from : (bytes : List ℕ) (whole : Tree) → Means [] None (past_space (past_mark bytes)) whole → reads bytes whole
unfolding MeansAt Completes
read_from bytes whole (x, r, h, (e, is)) = (r, subst (λ x. IsValue 128 (past_space (past_mark bytes)) x r) is h, e)

pub ended : (x : Tree) (b : List ℕ) → past_space b ≡ [] → Means [] (Some x) b x
unfolding MeansAt Completes
ended x b e = (e, refl)

-- a name has been read
pub name_found : {bytes b name q c : List ℕ} → bytes ≡ 34 ∷ b → IsString b name q → past_space q ≡ 58 ∷ c → IsName bytes name (past_space c)
name_found {name = name} {c = c} e h is = subst (λ bytes. IsName bytes name (past_space c)) (sym e) (named h is)
