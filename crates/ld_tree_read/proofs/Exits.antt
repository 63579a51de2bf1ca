-- What follows from what a call says of its result.
use Rattle.std.proofs.Common.{Result, Ok, Err}
use Rattle.std.proofs.Common.{◌≡◌, sym, subst}
use Rattle.std.specs.Result.{IfOk, IfErr, IsErrAnd}
use Rattle.ld_tree_read.specs.Steps.{Known}
use Rattle.ld_tree_read.specs.declared.refusal.ReadRefusal.{ReadRefusal}
use Rattle.ld_tree_read.specs.declared.refusal.ReadRefusal.TheVariants as r
use Rattle.std.proofs.lemmas.Result.{err_from_is_err_and}

pub if_ok : {T E : Type 0} (r : Result T E) {P Q : T → Type 0} → ((x : T) → P x → Q x) → IfOk r P → IfOk r Q
if_ok (Ok x) f h = f x h
if_ok (Err e) f h = tt

pub if_both : {T E : Type 0} (r : Result T E) {P R Q : T → Type 0} → ((x : T) → P x → R x → Q x) → IfOk r P → IfOk r R → IfOk r Q
if_both (Ok x) f h k = f x h k
if_both (Err e) f h k = tt

pub if_err : {T E : Type 0} (r : Result T E) {P Q : E → Type 0} → ((e : E) → P e → Q e) → IfErr r P → IfErr r Q
if_err (Ok x) f h = tt
if_err (Err e) f h = f e h

-- want of memory aside
pub known : (e : ReadRefusal) {P : Type 0} → P → Known e P
known (r.Syntax at) p = p
known (r.NotUtf8 at) p = p
known (r.Fraction at) p = p
known (r.TooLarge at) p = p
known (r.TooDeep at) p = p
known r.NoMemory p = tt

pub more : (e : ReadRefusal) {P Q : Type 0} → (P → Q) → Known e P → Known e Q
more (r.Syntax at) f p = f p
more (r.NotUtf8 at) f p = f p
more (r.Fraction at) f p = f p
more (r.TooLarge at) f p = f p
more (r.TooDeep at) f p = f p
more r.NoMemory f p = tt

-- at the exit of a `?`
pub passed_on : {T E : Type 0} (r : Result T E) (e : E) (P : E → Type 0) → IsErrAnd r (λ x. x ≡ e) → P e → IfErr r P
passed_on r e P h p =
    let (x, is, same) = err_from_is_err_and r h in
    subst (λ r. IfErr r P) (sym is) (subst P (sym same) p)

pub known_more : {T : Type 0} (r : Result T ReadRefusal) {P Q : ReadRefusal → Type 0} → ((e : ReadRefusal) → P e → Q e) → IfErr r (λ e. Known e (P e)) → IfErr r (λ e. Known e (Q e))
known_more r f h = if_err r (λ e k. more e (f e) k) h
