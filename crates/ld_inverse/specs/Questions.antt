-- The question of the definitions that the code's `Question` stands for.
use Rattle.std.specs.Prelude.{ℕ, List, ◌++◌}
use Rattle.ld_rec.specs.declared.def.Containers.{Containers}
use Rattle.ld_rec.specs.Wishes.{Question}
use Rattle.ld_inverse.specs.declared.question.Question.{Question as Made}

abbrev pub question_of : Made → Question
question_of q = record { containers = q.containers.items; kind = q.kind; wish = q.wish.now }

-- with these containers before its own
abbrev pub behind : List Containers → Question → Question
behind before q = record q { containers = before ++ q.containers }
