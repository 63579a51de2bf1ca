-- The words that ask for a server.
use Rattle.std.specs.Prelude.{◌≡◌, ◌≤◌, ℕ, List, [], ◌∷◌}
use Rattle.ld_script.specs.Lines.{IsNumber}
use Rattle.ld_work.specs.declared.form.Form.{Form}

-- The three words spell the numbers in decimal, and these are within their bounds.
pub record AreNumbers (workers connections every : List ℕ) (form : Form) : Type 0 where
  pub workers_are : (1 ≤ form.workers) × IsNumber workers 64 form.workers
  pub connections_are : (1 ≤ form.connections) × IsNumber connections 1000000 form.connections
  pub every_is : IsNumber every 1000000 form.every

-- The words are this one, an address, whatever it is, and the three numbers.
pub record IsFormOf (word : List ℕ) (words : List (List ℕ)) (form : Form) : Type 0 where
  pub address : List ℕ
  pub workers : List ℕ
  pub connections : List ℕ
  pub every : List ℕ
  pub words_are : words ≡ word ∷ address ∷ workers ∷ connections ∷ every ∷ []
  pub numbers : AreNumbers workers connections every form
