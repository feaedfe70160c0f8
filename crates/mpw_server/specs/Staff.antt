-- What strangers may take, as the settings say.
use Rattle.std.specs.Prelude.{Option, None, Some}
use Rattle.mpw_reception.specs.declared.rations.Strangers.{Strangers}
use Rattle.mpw_settings.specs.declared.service.Strangers.{Strangers as Given}

abbrev pub strangers_of : Option Given → Option Strangers
strangers_of None = None
strangers_of (Some given) = Some (record { memory = given.memory; rate = given.rate; login = given.login })
