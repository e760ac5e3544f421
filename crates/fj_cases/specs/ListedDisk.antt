-- What a disk holds that knows its names.
use Rattle.fj_outside.specs.Holdings.{Holdings}
use Rattle.fj_cases.specs.declared.listed_disk.ListedDisk.{ListedDisk}

abbrev pub disk_held : ListedDisk → Holdings
disk_held d = d.disk
