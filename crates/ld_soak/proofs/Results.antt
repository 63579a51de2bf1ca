-- What holds of a result.
use Rattle.std.specs.Prelude.{Result, Ok, Err, IfOk, OnOk}

pub IfOk-map : {T E : Type 0} (r : Result T E) (P Q : T → Type 0) → ((t : T) → P t → Q t) → IfOk r P → IfOk r Q
IfOk-map (Ok t) P Q so h = so t h
IfOk-map (Err e) P Q so h = h

pub OnOk-map : {T E : Type 0} (r : Result T E) (P Q : Type 0) → (P → Q) → OnOk r P → OnOk r Q
OnOk-map (Ok t) P Q so h = so h
OnOk-map (Err e) P Q so h = h
