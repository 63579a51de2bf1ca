-- What the code's tables stand for.
use Rattle.ld_history.specs.declared.tables.Tables.{Tables}
use Rattle.ld_history.specs.Store.{Store}

abbrev pub seen : Tables → Store
seen t = record {
  version = t.version;
  events = t.events;
  bytes = t.bytes;
  opened = t.opened;
  sessions = t.sessions.entries;
  flights = t.flights.items;
  leads = t.leads.entries;
  revisions = t.revisions.entries;
  stored = t.stored.entries;
  turns = t.turns.entries;
  evicted = t.evicted;
}
