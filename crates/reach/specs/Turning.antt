-- The net that lent turned tables are.
use Rattle.rooms.specs.Tables.{Net, turned}
use Rattle.reach.specs.declared.tables.Turned.{Turned}

abbrev pub net_in : Turned → Net
net_in t = turned t.targets.now t.costs.now
