-- What a statement asks about, as the program holds it.
use Rattle.fj_inquire.specs.declared.about.About.{About}
use Rattle.fj_inquire.specs.declared.about.About.TheVariants.{Connection, Unit, File}
use Rattle.fj_inquire.specs.Inquiring as asked

abbrev pub seen : About → asked.About
seen (Connection unit c look pending) = asked.connection unit c.now look pending
seen Unit = asked.unit
seen (File name exists) = asked.file name.now exists
