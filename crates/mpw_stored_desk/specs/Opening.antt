-- The conditions that the settings set for a store's file.
use Rattle.mpw_settings.specs.declared.store.Store.{Store}
use Rattle.mpw_store.specs.declared.terms.Terms.{Terms}

abbrev pub terms_of : Store → Terms
terms_of store = record {
  is_existing = store.is_existing;
  is_new = store.is_new;
  is_private = store.is_private;
}
