use Rattle.std.proofs.Common.{◌≡◌, ◌∙◌, ◌+◌, ◌++◌, ◌∷◌, [], ℕ, List, Option, Some, ap, sym, subst, true, arith, refl}
use Rattle.std.specs.Prelude.{Bool, if◌then◌else◌, is_ok}
use Rattle.std.specs.Arc.{arc_value}
use Rattle.std.specs.declared.sync.Arc.{Arc}
use Rattle.std.specs.declared.alloc.Global.{Global}
use Rattle.std.proofs.lemmas.Result.{IfOk-at_ok}
use Rattle.ld_rec.specs.declared.doc.Doc.{Doc}
use Rattle.ld_store.specs.Snapshots.{Shot, published}
use Rattle.ld_history.specs.declared.event.Given.{Given}
use Rattle.ld_history.specs.declared.answers.PublishAnswer.{PublishAnswer}
use Rattle.ld_history.specs.declared.answers.PublishAnswer.TheVariants as publish_answer
use Rattle.ld_history.specs.Store.{Store}
use Rattle.ld_history.specs.Words.{same_iri}
use Rattle.ld_history.specs.Rules.{on_flight}
use Rattle.ld_history.specs.Legal.{History, state}
use Rattle.ld_history.specs.Steps.{Answers, grown, publish_step}
use Rattle.ld_book.specs.Pages.{after_answer, given_of, history_of}
use Rattle.ld_book.specs.Documents.{IsAnswer}
use Rattle.ld_book.specs.Kept.{IsBook, booked, values_in}
use Rattle.ld_book.specs.Said.{told_publish}
use Rattle.ld_book.proofs.Counting.{counts}
use Rattle.ld_book.proofs.Taking.{keeps_published, keeps_same, may_publish, said_publish}
use Rattle.ld_book.proofs.Viewing.{came_in, in_state, says_in, values_more, was_same}
use Rattle.ld_book.proofs.book.Book.land.Goals as goal

pub overflow_add-version : goal.overflow_add-version
overflow_add-version c =
    let s = c.self.inside in
    let fits = counts s.state.limits s.state.entries c.self.invariant.within c.events-events.ensures.legal in
    omega (arith, fits.version, c.version.ensures)

pub allowed-requires : goal.allowed-requires
allowed-requires c refused =
    let s = c.self.inside in
    let ready = c.args.ready.now in
    let flight : c.flight-flight.result ≡ ready.pass.number = c.flight-flight.ensures ∙ ap (λ p. p.number) c.pass.ensures in
    let ok : on_flight (state s.state.entries) ready.pass.number (λ f. same_iri f.iri ready.pass.iri) ≡ true
    = in_state s.state (values_in s.documents.items) c.args.self.now c.self.view_is (λ (store : Store). on_flight store ready.pass.number (λ f. same_iri f.iri ready.pass.iri) ≡ true) c.requires in
    let answer : IsAnswer c.in_ok-given.given ready.doc = c.in_ok-given.ensures.answer in
    may_publish s.state c.flight-flight.result ready.pass.iri c.in_ok-given.given (subst (λ (n : ℕ). on_flight (state s.state.entries) n (λ f. same_iri f.iri ready.pass.iri) ≡ true) (sym flight) ok)
    answer.tells.short (c.publish.ensures.refused refused)

pub invariant_of-self-in-Published : goal.invariant_of-self-in-Published
invariant_of-self-in-Published c =
    let s = c.self.inside in
    let docs = values_in s.documents.items in
    let ready = c.args.ready.now in
    let given = c.in_ok-given.given in
    let shot = arc_value s.snapshot in
    let number = ready.pass.number in
    let flight : c.flight-flight.result ≡ number = c.flight-flight.ensures ∙ ap (λ p. p.number) c.pass.ensures in
    let ok : on_flight (state s.state.entries) number (λ f. same_iri f.iri ready.pass.iri) ≡ true
    = in_state s.state docs c.args.self.now c.self.view_is (λ (store : Store). on_flight store number (λ f. same_iri f.iri ready.pass.iri) ≡ true) c.requires in
    let is : Answers (publish_step s.state number given) (publish_answer.Published c.in-Published.version)
    = subst (λ (n : ℕ). Answers (publish_step s.state n given) (publish_answer.Published c.in-Published.version)) flight
    (IfOk-at_ok _ c.in_ok-version.ensures.taken c.publish.ensures.answered ∙ ap (λ (a : PublishAnswer). Some a) c.in-Published.is) in
    let grew : c.publish.new.self ≡ grown s.state (publish_step s.state number given)
    = IfOk-at_ok _ c.in_ok-version.ensures.taken c.publish.ensures.appended ∙ ap (λ (n : ℕ). grown s.state (publish_step s.state n given)) flight in
    let pushed : c.push.new.self.items ≡ s.documents.items ++ c.in_ok-doc.doc ∷ []
    = c.push.ensures.items ∙ ap (λ (b : Bool). if b then c.reserve.new.self.items ++ c.in_ok-doc.doc ∷ [] else c.reserve.new.self.items) (ap is_ok c.unwrap.ensures)
    ∙ ap (λ (items : List (Arc Doc Global)). items ++ c.in_ok-doc.doc ∷ []) c.reserve.ensures.items in
    let more : values_in c.push.new.self.items ≡ docs ++ ready.doc ∷ [] = values_more s.documents.items c.push.new.self.items c.in_ok-doc.doc ready.doc pushed (c.in_ok-doc.ensures ∙ c.doc.ensures) in
    let next : arc_value c.in_ok-next.next ≡ published shot ready.pass.iri (record { doc = ready.doc; flight = number; version = (state s.state.entries).version + 1 })
    = c.in_ok-next.ensures ∙ ap (λ (x : Shot). published x ready.pass.iri (record { doc = ready.doc; flight = number; version = c.version.result + 1 })) c.deref.ensures
    ∙ ap (λ (v : ℕ). published shot ready.pass.iri (record { doc = ready.doc; flight = number; version = v + 1 })) c.version.ensures in
    subst (λ (h : History). IsBook h s.tower (arc_value c.in_ok-next.next) (values_in c.push.new.self.items)) (sym grew)
    (subst (λ (x : Shot). IsBook (grown s.state (publish_step s.state number given)) s.tower x (values_in c.push.new.self.items)) (sym next)
    (subst (λ (ds : List Doc). IsBook (grown s.state (publish_step s.state number given)) s.tower (published shot ready.pass.iri (record { doc = ready.doc; flight = number; version = (state s.state.entries).version + 1 })) ds) (sym more)
    (keeps_published s.state s.tower shot docs c.self.invariant number given ready.doc ready.pass.iri ok c.in_ok-given.ensures.answer c.in-Published.version is)))

pub invariant_of-self-in-Same-1 : goal.invariant_of-self-in-Same-1
invariant_of-self-in-Same-1 c =
    let s = c.self.inside in
    let docs = values_in s.documents.items in
    let ready = c.args.ready.now in
    let given = c.in_ok-given.given in
    let flight : c.flight-flight.result ≡ ready.pass.number = c.flight-flight.ensures ∙ ap (λ p. p.number) c.pass.ensures in
    let ok : on_flight (state s.state.entries) ready.pass.number (λ f. same_iri f.iri ready.pass.iri) ≡ true
    = in_state s.state docs c.args.self.now c.self.view_is (λ (store : Store). on_flight store ready.pass.number (λ f. same_iri f.iri ready.pass.iri) ≡ true) c.requires in
    let is : Answers (publish_step s.state ready.pass.number given) publish_answer.Same
    = subst (λ (n : ℕ). Answers (publish_step s.state n given) publish_answer.Same) flight (IfOk-at_ok _ c.in_ok-version.ensures.taken c.publish.ensures.answered ∙ ap (λ (a : PublishAnswer). Some a) c.in-Same.is) in
    let grew : c.publish.new.self ≡ grown s.state (publish_step s.state ready.pass.number given)
    = IfOk-at_ok _ c.in_ok-version.ensures.taken c.publish.ensures.appended ∙ ap (λ (n : ℕ). grown s.state (publish_step s.state n given)) flight in
    subst (λ (items : List (Arc Doc Global)). IsBook c.publish.new.self s.tower (arc_value s.snapshot) (values_in items)) (sym c.reserve.ensures.items)
    (subst (λ (h : History). IsBook h s.tower (arc_value s.snapshot) docs) (sym grew)
    (keeps_same s.state s.tower (arc_value s.snapshot) docs c.self.invariant ready.pass.number given ready.doc ready.pass.iri ok c.in_ok-given.ensures.answer is))

pub returns-in-Published-clause-answered : goal.returns-in-Published-clause-answered
returns-in-Published-clause-answered c =
    let s = c.self.inside in
    let ready = c.args.ready.now in
    let flight : c.flight-flight.result ≡ ready.pass.number = c.flight-flight.ensures ∙ ap (λ p. p.number) c.pass.ensures in
    let is : Answers (publish_step s.state ready.pass.number (given_of ready)) (publish_answer.Published c.in-Published.version)
    = subst (λ (g : Given). Answers (publish_step s.state ready.pass.number g) (publish_answer.Published c.in-Published.version)) c.in_ok-given.ensures.given
    (subst (λ (n : ℕ). Answers (publish_step s.state n c.in_ok-given.given) (publish_answer.Published c.in-Published.version)) flight
    (IfOk-at_ok _ c.in_ok-version.ensures.taken c.publish.ensures.answered ∙ ap (λ (a : PublishAnswer). Some a) c.in-Published.is)) in
    says_in s.state (values_in s.documents.items) c.args.self.now c.self.view_is told_publish (λ h. publish_step h ready.pass.number (given_of ready)) _ _ is refl

pub returns-in-Published-clause-appended : goal.returns-in-Published-clause-appended
returns-in-Published-clause-appended c =
    let s = c.self.inside in
    let docs = values_in s.documents.items in
    let ready = c.args.ready.now in
    let given = c.in_ok-given.given in
    let number = ready.pass.number in
    let flight : c.flight-flight.result ≡ number = c.flight-flight.ensures ∙ ap (λ p. p.number) c.pass.ensures in
    let ok : on_flight (state s.state.entries) number (λ f. same_iri f.iri ready.pass.iri) ≡ true
    = in_state s.state docs c.args.self.now c.self.view_is (λ (store : Store). on_flight store number (λ f. same_iri f.iri ready.pass.iri) ≡ true) c.requires in
    let is : Answers (publish_step s.state number given) (publish_answer.Published c.in-Published.version)
    = subst (λ (n : ℕ). Answers (publish_step s.state n given) (publish_answer.Published c.in-Published.version)) flight
    (IfOk-at_ok _ c.in_ok-version.ensures.taken c.publish.ensures.answered ∙ ap (λ (a : PublishAnswer). Some a) c.in-Published.is) in
    let grew : c.publish.new.self ≡ grown s.state (publish_step s.state number given)
    = IfOk-at_ok _ c.in_ok-version.ensures.taken c.publish.ensures.appended ∙ ap (λ (n : ℕ). grown s.state (publish_step s.state n given)) flight in
    let pushed : c.push.new.self.items ≡ s.documents.items ++ c.in_ok-doc.doc ∷ []
    = c.push.ensures.items ∙ ap (λ (b : Bool). if b then c.reserve.new.self.items ++ c.in_ok-doc.doc ∷ [] else c.reserve.new.self.items) (ap is_ok c.unwrap.ensures)
    ∙ ap (λ (items : List (Arc Doc Global)). items ++ c.in_ok-doc.doc ∷ []) c.reserve.ensures.items in
    let more : values_in c.push.new.self.items ≡ docs ++ ready.doc ∷ [] = values_more s.documents.items c.push.new.self.items c.in_ok-doc.doc ready.doc pushed (c.in_ok-doc.ensures ∙ c.doc.ensures) in
    let told = said_publish s.state s.tower (arc_value s.snapshot) docs c.self.invariant number given ready.doc ready.pass.iri ok c.in_ok-given.ensures.answer (publish_answer.Published c.in-Published.version) is in
    ap (booked c.publish.new.self) more
    ∙ came_in s.state docs c.args.self.now c.self.view_is number given ready.doc c.self.invariant.used c.publish.new.self grew c.self.invariant.right c.in-Published.version told.0
    ∙ ap (λ (g : Given). after_answer c.args.self.now (publish_step (history_of c.args.self.now) number g) ready.doc) c.in_ok-given.ensures.given

pub returns-in-Same-clause-answered : goal.returns-in-Same-clause-answered
returns-in-Same-clause-answered c =
    let s = c.self.inside in
    let ready = c.args.ready.now in
    let flight : c.flight-flight.result ≡ ready.pass.number = c.flight-flight.ensures ∙ ap (λ p. p.number) c.pass.ensures in
    let is : Answers (publish_step s.state ready.pass.number (given_of ready)) publish_answer.Same
    = subst (λ (g : Given). Answers (publish_step s.state ready.pass.number g) publish_answer.Same) c.in_ok-given.ensures.given
    (subst (λ (n : ℕ). Answers (publish_step s.state n c.in_ok-given.given) publish_answer.Same) flight
    (IfOk-at_ok _ c.in_ok-version.ensures.taken c.publish.ensures.answered ∙ ap (λ (a : PublishAnswer). Some a) c.in-Same.is)) in
    says_in s.state (values_in s.documents.items) c.args.self.now c.self.view_is told_publish (λ h. publish_step h ready.pass.number (given_of ready)) _ _ is refl

pub returns-in-Same-clause-appended : goal.returns-in-Same-clause-appended
returns-in-Same-clause-appended c =
    let s = c.self.inside in
    let docs = values_in s.documents.items in
    let ready = c.args.ready.now in
    let given = c.in_ok-given.given in
    let number = ready.pass.number in
    let flight : c.flight-flight.result ≡ number = c.flight-flight.ensures ∙ ap (λ p. p.number) c.pass.ensures in
    let ok : on_flight (state s.state.entries) number (λ f. same_iri f.iri ready.pass.iri) ≡ true
    = in_state s.state docs c.args.self.now c.self.view_is (λ (store : Store). on_flight store number (λ f. same_iri f.iri ready.pass.iri) ≡ true) c.requires in
    let is : Answers (publish_step s.state number given) publish_answer.Same
    = subst (λ (n : ℕ). Answers (publish_step s.state n given) publish_answer.Same) flight (IfOk-at_ok _ c.in_ok-version.ensures.taken c.publish.ensures.answered ∙ ap (λ (a : PublishAnswer). Some a) c.in-Same.is) in
    let grew : c.publish.new.self ≡ grown s.state (publish_step s.state number given)
    = IfOk-at_ok _ c.in_ok-version.ensures.taken c.publish.ensures.appended ∙ ap (λ (n : ℕ). grown s.state (publish_step s.state n given)) flight in
    let told = said_publish s.state s.tower (arc_value s.snapshot) docs c.self.invariant number given ready.doc ready.pass.iri ok c.in_ok-given.ensures.answer publish_answer.Same is in
    ap (λ (items : List (Arc Doc Global)). booked c.publish.new.self (values_in items)) c.reserve.ensures.items
    ∙ was_same s.state docs c.args.self.now c.self.view_is number given ready.doc c.self.invariant.used c.publish.new.self grew told
    ∙ ap (λ (g : Given). after_answer c.args.self.now (publish_step (history_of c.args.self.now) number g) ready.doc) c.in_ok-given.ensures.given
