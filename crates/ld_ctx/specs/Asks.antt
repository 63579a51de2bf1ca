-- What the definitions see of an `Ask`.
use Rattle.ld_rec.specs.Records.{Context}
use Rattle.ld_rec.specs.Processing as processing
use Rattle.ld_ctx.specs.declared.ask.Ask.{Ask}

abbrev pub asked : {K : Type 0} → (K → Context) → Ask K → processing.Ask
asked flat ask = record {
  active = flat ask.active;
  local = ask.local;
  base = ask.base;
  remote = ask.remote;
  over = ask.over;
  propagate = ask.propagate;
  validate = ask.validate;
  depth = ask.depth;
}
